-- A point of a sequence, on what a journal store means, and what a restart makes of the store. Assumes nothing.
use Rattle.std.specs.Prelude.{Bool, List, ℕ, drop}
use Rattle.rules.specs.Recovery.{done, only}
use Rattle.rules.specs.Calls.{Store, next_of}
use Rattle.history.specs.History.{Deed}

-- the store, the deeds that stand, the newest first, and how many records were written since the latest checkpoint, restart or start
pub record Course : Type 0 where
  pub store : Store
  pub deeds : List Deed
  pub since : ℕ

-- the newest records lost
abbrev pub lose : ℕ → Store → Store
lose lost s = record { low = s.low; floor = s.floor; base = s.base; records = drop lost s.records }

-- section 5 for any choice of transactions that are kept: floor is the next number before the records of the others are dropped
abbrev pub recovered_by : (ℕ → Bool) → Store → Store
recovered_by keep s = record { low = s.low; floor = next_of s; base = s.base; records = only keep s.records }

-- section 5: transactions without a commit are dropped
abbrev pub recovered : Store → Store
recovered s = recovered_by (done s.records) s

-- the low that recovery's walk goes by: the store's own; the invariant of a sequence keeps it apart from the low that answers go by
abbrev pub walk_low : Store → ℕ
walk_low s = s.low
