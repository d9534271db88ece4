-- `sums::fill` meets its contract: what is left to fill completes to the answer. Assumes nothing.
use Rattle.std.proofs.Common.{rules}
use Rattle.sums.proofs.Turns.{byte_filled}
use Rattle.sums.specs.Sums.{filled}
use Rattle.sums.proofs.fill.Goals as goal

pub loop-i-init : goal.loop-i-init
unfolding filled
loop-i-init c = search rules

pub loop-i-preserved : goal.loop-i-preserved
loop-i-preserved c =
    let l = c.loop-i in
    let a = c.args in
    byte_filled a.value l.bytes l.i c.min-i-end.result (filled a.bytes.now a.from a.to a.value) l.invariant (search rules)
