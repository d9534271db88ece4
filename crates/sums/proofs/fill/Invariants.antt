-- `sums::fill` meets its contract: what is left to fill completes to the answer. Assumes nothing.
use Rattle.std.proofs.Common.{◌≡◌, ◌-◌}
use Rattle.sums.specs.Sums.{fill_on, filled}
use Rattle.sums.proofs.fill.Given as goal

abbrev pub invariant-loop-i : goal.invariant-loop-i
invariant-loop-i l = fill_on l.value l.bytes l.i (l.i-end - l.i) ≡ filled l.initial.bytes l.from l.to l.value
