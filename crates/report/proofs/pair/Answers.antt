-- `report::pair` meets its contract: a field and a line, one behind the other. Assumes nothing.
use Rattle.report.specs.Text.{field, line}
use Rattle.report.specs.Laws.{fits_first, then}
use Rattle.report.proofs.pair.Goals as goal

pub returns : goal.returns
returns c =
    let a = c.args in
    then (fits_first a.out.now a.at (field a.first.now a.n) (line a.second.now a.m) c.requires) c.field-next.ensures c.line.ensures
