-- Section 5 on the records of a journal, the newest first: whether an accepted call would write a record at its place, the walk over all of them,
-- and what recovery keeps. Assumes nothing.
use Rattle.std.specs.Prelude.{ℕ, ◌-◌, Bool, true, cond, not, ◌&&◌, ◌||◌, List, [], ◌∷◌, length, ◌==◌, nat_le, nat_lt, Option, Some, None}
use Rattle.rules.specs.declared.Record.{Record}
use Rattle.rules.specs.Limits.{most_running, numbers_end}
use Rattle.rules.specs.Kinds.{is_begin, is_update, is_commit}
use Rattle.rules.specs.Transactions.{any, of, runs, snapshot, running, may_write}
use Rattle.rules.specs.Times.{last, above}
use Rattle.rules.specs.Conflicts.{conflict}

-- a kind of section 4, its unused fields zero, no update of key 0
abbrev pub formed : Record → Bool
formed r =
    (r.zeros == 0)
    && cond (is_begin r || is_commit r) (r.key == 0 && r.value == 0)
    (cond (is_update r) (not (r.key == 0) && r.time == 0)
    (r.kind == 5 && (r.key == 0 && (r.value == 0 && r.time == 0))))

-- a begin's number exceeds those of earlier begins and lies in range; any other record's transaction runs
abbrev pub numbered : List Record → Record → Bool
numbered older r =
    cond (is_begin r) (nat_le (above 1 older) r.transaction && nat_le r.transaction (numbers_end - 1)) (runs r.transaction older)

-- a snapshot from low to last, a commit later than last
abbrev pub timely : ℕ → List Record → Record → Bool
timely low older r =
    cond (is_begin r) (nat_le low r.time && nat_le r.time (last low older)) (cond (is_commit r) (nat_lt (last low older) r.time) true)

-- at most 8 run, at most 32 keys each
abbrev pub limited : List Record → Record → Bool
limited older r = cond (is_begin r) (nat_lt (length (running older)) most_running) (cond (is_update r) (may_write r.transaction r.key older) true)

-- a commit does not conflict
abbrev pub clear : List Record → Record → Bool
clear older r = cond (is_commit r) (not (conflict r.transaction (snapshot r.transaction older) older)) true

-- an accepted call would write r behind older
abbrev pub judge : ℕ → List Record → Record → Bool
judge low older r = formed r && (numbered older r && (timely low older r && (limited older r && clear older r)))

-- every record is one that an accepted call would write at its place
abbrev pub accepts : ℕ → List Record → Bool
accepts low [] = true
accepts low (r ∷ older) = judge low older r && accepts low older

-- what an earlier place found, or else what this one finds
abbrev pub first_bad : Option ℕ → Option ℕ → Option ℕ
first_bad None w = w
first_bad (Some i) w = Some i

-- the place of the first record that fails, counted from 0
abbrev pub walk : ℕ → List Record → Option ℕ
walk low [] = None
walk low (r ∷ older) = first_bad (walk low older) (cond (judge low older r) None (Some (length older)))

-- transaction n has a commit
abbrev pub done : List Record → ℕ → Bool
done rs n = any is_commit (of n rs)

-- the records of the transactions that are kept, in order
abbrev pub only : (ℕ → Bool) → List Record → List Record
only keep [] = []
only keep (r ∷ rs) = cond (keep r.transaction) (r ∷ only keep rs) (only keep rs)

-- what recovery keeps
abbrev pub survivors : List Record → List Record
survivors rs = only (done rs) rs
