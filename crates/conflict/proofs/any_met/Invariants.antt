-- `conflict::any_met` meets its contract. The loop's invariant: whether some record passed is met. Assumes nothing.
use mathlib.Core.Path.{◌≡◌}
use Rattle.rules.specs.Transactions.{any}
use Rattle.record.specs.Bytes.{records_in}
use Rattle.conflict.specs.Keys.{met_in}
use Rattle.conflict.proofs.any_met.Given as goal

abbrev pub invariant-loop-i : goal.invariant-loop-i
invariant-loop-i l = l.found ≡ any (met_in l.written l.assigned l.numbers) (records_in l.i l.records.bytes.now)
