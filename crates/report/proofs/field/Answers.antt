-- `report::field` meets its contract: a name and the digits of a number, one behind the other. Assumes nothing.
use Rattle.decimal.specs.Digits.{digits}
use Rattle.report.specs.Laws.{printed, fits_first, then}
use Rattle.report.proofs.field.Goals as goal

pub returns : goal.returns
returns c =
    let a = c.args in
    then (fits_first a.out.now a.at a.name.now (digits a.n) c.requires) c.put-next.ensures (printed c.print.ensures)
