-- `report::refused` meets its contract: the line of two numbers fits. Assumes nothing.
use native.Mathlib.Omega.{arith}
use Rattle.decimal.specs.Laws.{digits_64}
use Rattle.report.specs.Text.{refused_is, record_is}
use Rattle.report.specs.Laws.{length_pair}
use Rattle.report.proofs.refused.Goals as goal

pub pair-requires : goal.pair-requires
pair-requires c =
    let n = c.number-number.result in
    let p = c.unwrap_or-place.result in
    omega (arith, length_pair refused_is record_is n p, digits_64 n (omega arith), digits_64 p (omega arith))
