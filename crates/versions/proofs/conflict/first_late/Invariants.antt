-- `versions::conflict::first_late` meets its contract. The loop's invariant: the rows before i are early.
use Rattle.versions.specs.Search.{Early}
use Rattle.versions.proofs.conflict.first_late.Given as goal

abbrev pub invariant-loop-i : goal.invariant-loop-i
invariant-loop-i l = Early l.s l.times l.i
