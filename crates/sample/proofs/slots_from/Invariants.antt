-- `sample::slots_from` meets its contract. The loop's invariant: the slots that are filled and those that are left are all eight.
-- Assumes nothing.
use Rattle.std.proofs.Common.{◌≡◌, ◌++◌, ◌+◌, ◌*◌, ◌-◌, length, take}
use Rattle.sample.specs.Sample.{slots_from}
use Rattle.sample.proofs.slots_from.Given as goal

abbrev pub invariant-loop-i : goal.invariant-loop-i
invariant-loop-i l = (length l.slots ≡ 8) × (take l.i l.slots ++ slots_from (l.place + 99 * l.i) (8 - l.i) ≡ slots_from l.place 8)
