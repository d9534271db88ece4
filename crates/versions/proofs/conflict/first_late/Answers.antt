-- `versions::conflict::first_late` meets its contract: the times that are passed are early.
use Rattle.std.proofs.Common.{arith, rules}
use Rattle.versions.specs.SearchLaws.{early_more}
use Rattle.versions.proofs.conflict.first_late.Goals as goal

pub loop-i-init : goal.loop-i-init
loop-i-init c =
    let a = c.args in
    let w = c.pass-from.ensures in
    early_more a.s a.times.now 0 c.pass-from.result (omega (arith, w.1)) (search (rules, w.2)) (λ j l. absurd (omega (arith, l)))
