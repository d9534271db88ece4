-- `sample::cells_from` meets its contract. The loop's invariant: the cells that are filled and those that are left are the whole column.
-- Assumes nothing.
use Rattle.std.proofs.Common.{◌≡◌, ◌++◌, ◌+◌, ◌-◌, length, take}
use Rattle.sample.specs.Sample.{cells_from}
use Rattle.sample.proofs.cells_from.Given as goal

abbrev pub invariant-loop-i : goal.invariant-loop-i
invariant-loop-i g l =
    (length l.cells ≡ 32) × (take l.i l.cells ++ cells_from g.T.Placed.placed (l.place + l.i) (32 - l.i) ≡ cells_from g.T.Placed.placed l.place 32)
