-- `versions::some` meets its contract: one cell more is tested, and the cells so far are all of them in the end.
use Rattle.std.proofs.Common.{refl, take_all}
use Rattle.std.proofs.lemmas.List.Folds.{list_any_more}
use Rattle.versions.proofs.some.Goals as goal

pub loop-x-preserved : goal.loop-x-preserved
loop-x-preserved g c p f =
    let l = c.loop-x in
    rw (list_any_more p c.args.cells.now l.x-index c.x-item.result c.loop-x-test.true, ← c.x-item.is, ← l.invariant p f, ← f c.x-item.result _ c.test-met.ensures) refl

pub returns : goal.returns
returns g c p f = rw (take_all c.loop-x.x-index c.args.cells.now c.loop-x-test.false) at (c.loop-x.invariant p f)
