-- `walk::walk` meets its contract. The loop's invariant: the state is that of the records passed, and all of them are accepted.
-- Assumes nothing.
use mathlib.Core.Path.{◌≡◌}
use Rattle.std.specs.Prelude.{None}
use Rattle.rules.specs.Recovery.{walk}
use Rattle.record.specs.Bytes.{records_in}
use Rattle.walk.specs.Walk.{Tracks}
use Rattle.walk.proofs.walk.Given as goal

abbrev pub invariant-loop-i : goal.invariant-loop-i
invariant-loop-i l = Tracks l.low (records_in l.i l.records.bytes.now) l.s × (walk l.low (records_in l.i l.records.bytes.now) ≡ None)
