-- `store_file::column` meets its contract. The loop's invariant: the rows passed, and the column of those that are left, are the whole. Assumes nothing.
use Rattle.std.proofs.Common.{◌∙◌, arith}
use Rattle.store_file.proofs.column.Invariants.{turn}
use Rattle.store_file.proofs.column.Goals as goal

pub loop-i-preserved : goal.loop-i-preserved
loop-i-preserved c =
    let a = c.args in
    let l = c.loop-i in
    turn a.file.now a.at a.rows l.to l.i c.field.result (omega arith) (omega arith) c.field.ensures.value ∙ l.invariant
