-- `sums::of` meets its contract: what is left of the column completes to the sum. Assumes nothing.
use Rattle.std.proofs.Common.{ℕ, drop}
use Rattle.sums.specs.Sums.{Totals}
use Rattle.sums.proofs.of.Given as goal

abbrev pub invariant-loop-x : goal.invariant-loop-x
invariant-loop-x g l = (r : ℕ) → Totals g.T.Into.converts l.s (drop l.x-index l.column) r → Totals g.T.Into.converts l.sum l.column r
