-- `newest::list::follow` meets its contract. The loop's invariant: the cells passed are followed, the others as they were.
use Rattle.std.proofs.Common.{◌≡◌, ◌++◌, take, drop}
use Rattle.newest.specs.Newest.{followed}
use Rattle.newest.proofs.list.follow.Given as goal

abbrev pub invariant-loop-i : goal.invariant-loop-i
invariant-loop-i l = l.places ≡ followed l.values (take l.i l.initial.places) ++ drop l.i l.initial.places
