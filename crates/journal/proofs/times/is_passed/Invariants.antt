-- `journal::times::is_passed` meets its contract. The loop's invariant: whether some record passed is a later commit. Assumes nothing.
use mathlib.Core.Path.{◌≡◌}
use Rattle.rules.specs.Transactions.{any}
use Rattle.rules.specs.Checkpoints.{late}
use Rattle.record.specs.Bytes.{records_in}
use Rattle.journal.proofs.times.is_passed.Given as goal

abbrev pub invariant-loop-i : goal.invariant-loop-i
invariant-loop-i l = (l.found ≡ any (late l.t) (records_in l.i l.records.bytes.now))
