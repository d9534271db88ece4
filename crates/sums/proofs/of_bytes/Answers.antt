-- `sums::of_bytes` meets its contract: what `of` answers of its cells is their total. Assumes nothing.
use Rattle.sums.specs.Unique.{totals_total}
use Rattle.sums.proofs.of_bytes.Goals as goal

pub returns : goal.returns
returns c = totals_total c.args.sum c.args.column.now c.of.ensures
