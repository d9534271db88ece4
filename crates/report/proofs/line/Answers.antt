-- `report::line` meets its contract: a field and the newline, one behind the other. Assumes nothing.
use Rattle.report.specs.Text.{field, newline}
use Rattle.report.specs.Laws.{fits_first, then}
use Rattle.report.proofs.line.Goals as goal

pub returns : goal.returns
returns c =
    let a = c.args in
    then (fits_first a.out.now a.at (field a.name.now a.n) (newline) c.requires) c.field-next.ensures c.put.ensures
