-- `map_store::begin::begin` meets its contract: what was decided is done. Assumes nothing.
use mathlib.Core.Path.{sym, ◌∙◌}
use Rattle.std.specs.Prelude.{Some}
use Rattle.answer.specs.Laws.{accepted_zero}
use Rattle.versions.specs.Versions.{columns}
use Rattle.map_store.specs.Laws.{answered, begin_next}
use Rattle.map_store.proofs.begin.begin.Goals as goal

pub open-head-requires : goal.open-head-requires
open-head-requires c =
    let a = c.args in
    begin_next (c.decide-answer.ensures 0 (columns a.keys.now a.times.now a.values.now a.marks.now)) (accepted_zero (λ n. Some n) c.decide-answer.result)

pub returns : goal.returns
returns c =
    let a = c.args in
    let d = c.decide-answer.ensures _ (columns a.keys.now a.times.now a.values.now a.marks.now) in
    answered (sym c.shaped.ensures.value ∙ c.if-not-shaped.false) d (accepted_zero (λ n. Some n) c.decide-answer.result) c.open-head.ensures
