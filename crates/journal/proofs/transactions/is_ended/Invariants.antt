-- `journal::transactions::is_ended` meets its contract. The loop's invariant: an end stands from the first place on exactly if one stands among the
-- records that are left. Assumes nothing.
use mathlib.Core.Path.{◌≡◌}
use Prim.Native.Nat.{◌-◌}
use Rattle.journal.specs.Ends.{ended_from}
use Rattle.journal.proofs.transactions.is_ended.Given as goal

abbrev pub invariant-loop-i : goal.invariant-loop-i
invariant-loop-i l = ended_from l.n l.records.bytes.now l.i (l.records.used - l.i) ≡ ended_from l.n l.records.bytes.now l.from (l.records.used - l.from)
