-- `compact::set_mark` meets its contract. Assumes nothing.
use mathlib.Core.Path.{refl}
use Rattle.compact.specs.MarksLaws.{mark_new, mark_old}
use Rattle.compact.proofs.set_mark.Goals as goal

pub returns-then-old-ne0 : goal.returns-then-old-ne0
returns-then-old-ne0 c = mark_old c.args.marks.now c.args.n _ c.mark_place-at.ensures c.requires _ refl

pub returns : goal.returns
returns c = mark_new c.args.marks.now c.args.n _ c.mark_place-at.ensures c.requires c.if-old-ne0.false
