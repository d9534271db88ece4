-- Sections 3 and 6: what the journal store answers to each call, and what an accepted call makes of it, on its meaning: low, floor, the rows of the
-- base and the records of the journal, the newest first. Bad shape (1) is tested on the lent cells, before there is a meaning. Assumes nothing.
use Rattle.std.specs.Prelude.{ℕ, ◌+◌, Bool, cond, not, List, [], ◌∷◌, length, ◌==◌, nat_le, nat_lt, Some, None}
use Rattle.rules.specs.declared.Record.{Record}
use Rattle.rules.specs.Value.{Value}
use Rattle.rules.specs.declared.Effect.{Effect}
use Rattle.rules.specs.declared.Effect.TheVariants.{Assign, Add}
use Rattle.rules.specs.Limits.{most_running, numbers_end}
use Rattle.rules.specs.Kinds.{begun, assigned, added, committed, aborted}
use Rattle.rules.specs.Transactions.{runs, snapshot, running, may_write}
use Rattle.rules.specs.Times.{last, next}
use Rattle.rules.specs.Values.{Row, value_at, read_in}
use Rattle.rules.specs.Lists.{list_at}
use Rattle.rules.specs.Conflicts.{conflict}
use Rattle.rules.specs.Checkpoints.{held, kept}

-- what a journal store is taken to mean
pub record Store : Type 0 where
  pub low : ℕ
  pub floor : ℕ
  pub base : List Row
  pub records : List Record

-- low and last 0, floor 1, no rows and no records
abbrev pub empty : Store
empty = record { low = 0; floor = 1; base = []; records = [] }

-- What calls ask of a store, each in one place: last and the next number, rule 3.3
abbrev pub last_of : Store → ℕ
last_of s = last s.low s.records

abbrev pub next_of : Store → ℕ
next_of s = next s.floor s.records

-- the running transactions, whether one runs, its snapshot, whether a time is above a running snapshot
abbrev pub running_of : Store → List ℕ
running_of s = running s.records

abbrev pub runs_in : ℕ → Store → Bool
runs_in n s = runs n s.records

abbrev pub snapshot_in : ℕ → Store → ℕ
snapshot_in n s = snapshot n s.records

abbrev pub held_in : ℕ → Store → Bool
held_in t s = held t s.records

-- whether a transaction may write a key, and whether its commit conflicts
abbrev pub may_write_in : ℕ → ℕ → Store → Bool
may_write_in n k s = may_write n k s.records

abbrev pub conflict_in : ℕ → Store → Bool
conflict_in n s = conflict n (snapshot_in n s) s.records

-- the value of k at t, the list at t, and what transaction n reads in k
abbrev pub value_of : ℕ → ℕ → Store → Value
value_of k t s = value_at s.base s.records t k

abbrev pub list_of : ℕ → Store → List Row
list_of t s = list_at s.base s.records t

abbrev pub read_of : ℕ → ℕ → Store → Value
read_of n k s = read_in s.base s.records n (snapshot_in n s) k

-- the records that a checkpoint at t keeps
abbrev pub kept_of : ℕ → Store → List Record
kept_of t s = kept t s.records

-- the record of an update
abbrev pub updated : ℕ → ℕ → Effect → Record
updated n k (Assign v) = assigned n k v
updated n k (Add d) = added n k d

-- the calls that write a record
pub data Call : Type 0 where
  Begin : ℕ → Call
  Update : ℕ → ℕ → Effect → Call
  Abort : ℕ → Call
  Commit : ℕ → ℕ → Call

-- the record that an accepted call writes
abbrev pub record_of : Call → Store → Record
record_of (Begin t) s = begun (next_of s) t
record_of (Update n k e) s = updated n k e
record_of (Abort n) s = aborted n
record_of (Commit n t) s = committed n t

-- begin returns the transaction number, the others nothing
abbrev pub gives : Call → Store → Value
gives (Begin t) s = Some (next_of s)
gives (Update n k e) s = None
gives (Abort n) s = None
gives (Commit n t) s = None

-- What both stores test alike, by low and last: a time below low is too old (4), one above last lies in the future (5)
abbrev pub time_tests : ℕ → ℕ → ℕ → ℕ → ℕ
time_tests t low last others = cond (nat_lt t low) 4 (cond (nat_lt last t) 5 others)

-- a lookup: key 0 is none (3), then the time
abbrev pub lookup_tests : ℕ → ℕ → ℕ → ℕ → ℕ
lookup_tests k t low last = cond (k == 0) 3 (time_tests t low last 0)

-- a checkpoint: the time, then whether a running snapshot holds it (9)
abbrev pub checkpoint_tests : ℕ → ℕ → ℕ → Bool → ℕ
checkpoint_tests t low last is_held = time_tests t low last (cond is_held 9 0)

abbrev pub time_refusal : ℕ → Store → ℕ → ℕ
time_refusal t s others = time_tests t s.low (last_of s) others

-- section 6 but for shape and room, in the order of its tests
abbrev pub refusal : Call → Store → ℕ
refusal (Begin t) s = time_refusal t s (cond (nat_le most_running (length (running_of s))) 6 (cond (nat_le numbers_end (next_of s)) 7 0))
refusal (Update n k e) s =
    cond (not (runs_in n s)) 2 (cond (k == 0) 3 (cond (not (may_write_in n k s)) 8 0))
refusal (Abort n) s = cond (not (runs_in n s)) 2 0
refusal (Commit n t) s =
    cond (not (runs_in n s)) 2 (cond (nat_le t (last_of s)) 10 (cond (conflict_in n s) 11 0))

abbrev pub read_refusal : ℕ → ℕ → Store → ℕ
read_refusal n k s = cond (not (runs_in n s)) 2 (cond (k == 0) 3 0)

abbrev pub lookup_refusal : ℕ → ℕ → Store → ℕ
lookup_refusal k t s = lookup_tests k t s.low (last_of s)

abbrev pub list_refusal : ℕ → Store → ℕ
list_refusal t s = time_refusal t s 0

abbrev pub checkpoint_refusal : ℕ → Store → ℕ
checkpoint_refusal t s = checkpoint_tests t s.low (last_of s) (held_in t s)

-- rule 3.11: how many free records a call needs
abbrev pub need : Call → Store → ℕ
need (Begin t) s = 2 + length (running_of s)
need (Update n k e) s = 1 + length (running_of s)
need (Abort n) s = 1
need (Commit n t) s = 1

-- no room (12) is the last test in every order
abbrev pub with_room : ℕ → ℕ → ℕ → ℕ
with_room refused wanted room = cond (refused == 0) (cond (nat_le wanted room) 0 12) refused

-- the number that a call gets where so many records are lent
abbrev pub answer : ℕ → Call → Store → ℕ
answer room c s = with_room (refusal c s) (length s.records + need c s) room

-- the numbers that list and checkpoint get where so many rows are lent
abbrev pub list_answer : ℕ → ℕ → Store → ℕ
list_answer room t s = with_room (list_refusal t s) (length (list_of t s)) room

abbrev pub checkpoint_answer : ℕ → ℕ → Store → ℕ
checkpoint_answer room t s = with_room (checkpoint_refusal t s) (length (list_of t s)) room

-- one record more
abbrev pub push : Record → Store → Store
push r s = record { low = s.low; floor = s.floor; base = s.base; records = r ∷ s.records }

-- rule 3.9: base becomes the list at T, low T, floor the next number
abbrev pub checkpointed : ℕ → Store → Store
checkpointed T s = record { low = T; floor = next_of s; base = list_of T s; records = kept_of T s }
