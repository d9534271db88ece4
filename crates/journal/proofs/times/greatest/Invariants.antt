-- `journal::times::greatest` meets its contract. The loop's invariant: best is last of the records passed. Assumes nothing.
use mathlib.Core.Path.{◌≡◌}
use Rattle.rules.specs.Times.{last}
use Rattle.record.specs.Bytes.{records_in}
use Rattle.journal.proofs.times.greatest.Given as goal

abbrev pub invariant-loop-i : goal.invariant-loop-i
invariant-loop-i l = (l.best ≡ last l.low (records_in l.i l.records.bytes.now))
