-- `journal::times::next` meets its contract. The loop's invariant: best is one more than the highest number begun in the records passed, at least
-- floor; it is capped after the loop. Assumes nothing.
use mathlib.Core.Path.{◌≡◌}
use Prim.Native.Nat.{◌≤◌}
use Rattle.rules.specs.Times.{above}
use Rattle.record.specs.Bytes.{records_in}
use Rattle.journal.proofs.times.next.Given as goal

abbrev pub invariant-loop-i : goal.invariant-loop-i
invariant-loop-i l = (l.best ≤ 4294967296) × (l.best ≡ above l.floor (records_in l.i l.records.bytes.now))
