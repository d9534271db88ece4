-- Where the run goes on from here, it has gone on from the start. Each turn reads a line.
use Rattle.script.specs.declared.run.Run.{Run}
use Rattle.script.specs.Run.{fresh, left}
use Rattle.script.specs.Follow.{Follows}
use Rattle.script.proofs.run.follow.Given as goal

abbrev pub invariant-loop-run : goal.invariant-loop-run
invariant-loop-run g l =
    (r : Run) (s : g.row.S.Denot) → Follows g.S.Store.turns g.S.Store.sums l.script l.run l.store r s
    → Follows g.S.Store.turns g.S.Store.sums l.script (fresh l.fn.word) l.fn.store r s

abbrev pub decreases-loop-run : goal.decreases-loop-run
decreases-loop-run g l = left l.run
