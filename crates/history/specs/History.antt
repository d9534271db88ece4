-- The history of a sequence, from the accepted calls alone: the committed transactions with their times and changes, and the running ones. Nothing is
-- ever taken out of it but by a restart, and a checkpoint moves low only. With the stores it shares rule 3.1 (applied) and how rows are built from keys
-- and any function that gives their values (listed), and no other rule; also the names of the calls, and how a number is found in a list (among). Lists
-- stand the newest first. Assumes nothing.
use Rattle.std.specs.Prelude.{Bool, true, false, cond, ◌&&◌, ◌||◌, List, [], ◌∷◌, ℕ, suc, max, eqb, leb, drop, Some, None}
use Rattle.rules.specs.Value.{Value}
use Rattle.rules.specs.declared.Effect.{Effect}
use Rattle.rules.specs.Effects.{applied}
use Rattle.rules.specs.Values.{Row}
use Rattle.rules.specs.Lists.{among, listed}
use Rattle.rules.specs.Calls.{Call, Begin, Update, Abort, Commit}

-- a change that a transaction makes: a key, and what is done to its register
pub record Change : Type 0 where
  pub key : ℕ
  pub effect : Effect

-- a committed transaction: its time and its changes
pub record Commitment : Type 0 where
  pub time : ℕ
  pub changes : List Change

-- a running transaction: its number, its snapshot and its changes so far
pub record Runner : Type 0 where
  pub number : ℕ
  pub snapshot : ℕ
  pub changes : List Change

-- low is the time of the latest checkpoint, next the number that the next begin gets
pub record History : Type 0 where
  pub low : ℕ
  pub next : ℕ
  pub commitments : List Commitment
  pub runners : List Runner

-- what was done to a store: an accepted call, or an accepted checkpoint at a time
pub data Deed : Type 0 where
  Did : Call → Deed
  Checkpointed : ℕ → Deed

-- the numbers of the running transactions
abbrev pub numbers : List Runner → List ℕ
numbers [] = []
numbers (r ∷ rest) = r.number ∷ numbers rest

-- the changes of running transaction n
abbrev pub changes_of : ℕ → List Runner → List Change
changes_of n [] = []
changes_of n (r ∷ rest) = cond (eqb r.number n) r.changes (changes_of n rest)

-- the snapshot of running transaction n
abbrev pub snapshot_of : ℕ → List Runner → ℕ
snapshot_of n [] = 0
snapshot_of n (r ∷ rest) = cond (eqb r.number n) r.snapshot (snapshot_of n rest)

-- one change more in a running transaction
abbrev pub changing : Change → Runner → Runner
changing c r = record { number = r.number; snapshot = r.snapshot; changes = c ∷ r.changes }

-- transaction n makes one change more
abbrev pub changed : ℕ → Change → List Runner → List Runner
changed n c [] = []
changed n c (r ∷ rest) = cond (eqb r.number n) (changing c r ∷ rest) (r ∷ changed n c rest)

-- transaction n runs no more
abbrev pub ended : ℕ → List Runner → List Runner
ended n [] = []
ended n (r ∷ rest) = cond (eqb n r.number) (ended n rest) (r ∷ ended n rest)

-- begin starts a transaction, update is one change more in it, abort ends it without a trace, commit moves it to the committed ones
abbrev pub recalled : Call → History → History
recalled (Begin t) h =
    record {
      low = h.low;
      next = suc h.next;
      commitments = h.commitments;
      runners = record { number = h.next; snapshot = t; changes = [] } ∷ h.runners;
    }
recalled (Update n k e) h =
    record { low = h.low; next = h.next; commitments = h.commitments; runners = changed n (record { key = k; effect = e }) h.runners }
recalled (Abort n) h = record { low = h.low; next = h.next; commitments = h.commitments; runners = ended n h.runners }
recalled (Commit n t) h =
    record {
      low = h.low;
      next = h.next;
      commitments = record { time = t; changes = changes_of n h.runners } ∷ h.commitments;
      runners = ended n h.runners;
    }

-- one deed more
abbrev pub with_deed : Deed → History → History
with_deed (Did c) h = recalled c h
with_deed (Checkpointed t) h = record { low = t; next = h.next; commitments = h.commitments; runners = h.runners }

-- the history of some deeds, the newest first
abbrev pub history : List Deed → History
history [] = record { low = 0; next = 1; commitments = []; runners = [] }
history (d ∷ older) = with_deed d (history older)

-- an abort of each of these transactions that runs
abbrev pub aborting : List ℕ → List Deed → List Deed
aborting [] ds = ds
aborting (n ∷ ns) ds = aborting ns (cond (among n (numbers (history ds).runners)) (Did (Abort n) ∷ ds) ds)

-- a restart that loses the newest so many records: the calls that wrote them were never made, and these transactions are aborted
abbrev pub restarted_by : List ℕ → ℕ → List Deed → List Deed
restarted_by ns lost ds = aborting ns (drop lost ds)

-- a restart that loses the newest so many records, and aborts all that runs then
abbrev pub restarted : ℕ → List Deed → List Deed
restarted lost ds = restarted_by (numbers (history (drop lost ds)).runners) lost ds

-- what some changes make of the value of k, in their order
abbrev pub making : ℕ → List Change → Value → Value
making k [] v = v
making k (c ∷ older) v = cond (eqb c.key k) (applied c.effect (making k older v)) (making k older v)

-- the value of k at t: from absent on, the changes of each transaction committed at or before t, in the order of the commits
abbrev pub value_in : List Commitment → ℕ → ℕ → Value
value_in [] t k = None
value_in (c ∷ older) t k = cond (leb c.time t) (making k c.changes (value_in older t k)) (value_in older t k)

-- what transaction n reads in k: the value at its snapshot, then its own changes in order
abbrev pub reads : History → ℕ → ℕ → Value
reads h n k = making k (changes_of n h.runners) (value_in h.commitments (snapshot_of n h.runners) k)

-- the greatest of low and all commit times
abbrev pub latest : ℕ → List Commitment → ℕ
latest low [] = low
latest low (c ∷ older) = max (latest low older) c.time

-- the keys of some changes, before other keys
abbrev pub changed_keys : List Change → List ℕ → List ℕ
changed_keys [] ks = ks
changed_keys (c ∷ older) ks = c.key ∷ changed_keys older ks

-- the keys that committed transactions changed
abbrev pub committed_keys : List Commitment → List ℕ
committed_keys [] = []
committed_keys (c ∷ older) = changed_keys c.changes (committed_keys older)

-- the list at t: every key from 1 up that is not absent at t, once, rising, with its value
abbrev pub list_in : List Commitment → ℕ → List Row
list_in cs t = listed (value_in cs t) (committed_keys cs)

-- some change has the key
abbrev pub changes : ℕ → List Change → Bool
changes k [] = false
changes k (c ∷ older) = eqb c.key k || changes k older

-- k was written by a transaction that committed at or before t
abbrev pub written_by : List Commitment → ℕ → ℕ → Bool
written_by [] t k = false
written_by (c ∷ older) t k = (leb c.time t && changes k c.changes) || written_by older t k

-- a value that is not absent
abbrev pub is_present : Value → Bool
is_present None = false
is_present (Some v) = true

-- the deeds without the checkpoints
abbrev pub without_checkpoints : List Deed → List Deed
without_checkpoints [] = []
without_checkpoints (Did c ∷ ds) = Did c ∷ without_checkpoints ds
without_checkpoints (Checkpointed t ∷ ds) = without_checkpoints ds
