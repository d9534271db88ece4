-- `journal::transactions::held` meets its contract. The loop's invariant: whether some record passed holds the time. Assumes nothing.
use mathlib.Core.Path.{◌≡◌}
use Rattle.rules.specs.Transactions.{any}
use Rattle.rules.specs.Checkpoints.{held_by}
use Rattle.record.specs.Bytes.{records_in}
use Rattle.journal.proofs.transactions.held.Given as goal

abbrev pub invariant-loop-i : goal.invariant-loop-i
invariant-loop-i l = (l.found ≡ any (held_by l.t (records_in l.records.used l.records.bytes.now)) (records_in l.i l.records.bytes.now))
