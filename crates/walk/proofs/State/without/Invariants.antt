-- `walk::State::without` meets its contract. The loop's invariant: the rest has the rows passed, without those of the number.
-- Assumes nothing.
use Rattle.walk.specs.Walk.{Without}
use Rattle.walk.proofs.State.without.Given as goal

abbrev pub invariant-loop-i : goal.invariant-loop-i
invariant-loop-i l = Without l.self l.n l.i l.rest
