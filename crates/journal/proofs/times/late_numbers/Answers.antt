-- `journal::times::late_numbers` meets its contract. The loop's invariant: the column holds the transactions of the late commits passed.
-- Assumes nothing.
use Prim.Native.Nat.{◌+◌}
use Rattle.rules.specs.Checkpoints.{late}
use Rattle.record.specs.Bytes.{records_in}
use Rattle.record.specs.Walks.{onward}
use Rattle.journal.specs.Gathered.{lates, Gathered}
use Rattle.journal.specs.GatheredLaws.{gathered_more, gathered_same}
use native.Mathlib.Omega.{arith}
use Rattle.journal.proofs.times.late_numbers.Goals as goal
use Rattle.journal.proofs.times.late_numbers.Goals.{then-is_late, else-is_late}

pub loop-i-preserved : goal.loop-i-preserved
loop-i-preserved c =
    let l = c.loop-i in
    let a = c.args in
    let r = c.at-r in
    let j = a.records.bytes.now in
    let xs = lates a.s (records_in l.i j) in
    let test = late a.s r.result in
    onward (λ rs. Gathered (lates a.s rs) (l.i + 1) c.if-is_late.count a.numbers.now c.if-is_late.numbers) j l.i _ r.ensures
    (elim c.if-is_late.branch [
      | then-is_late w ↦ gathered_more xs l.i l.count a.numbers.now l.numbers l.invariant test _ c.is_late.ensures r.result.transaction _ _
          (omega arith) w.if-is_late.true w.count-is w.numbers-is
      | else-is_late w ↦ gathered_same xs l.i l.count a.numbers.now l.numbers l.invariant test _ c.is_late.ensures r.result.transaction _ _
          w.if-is_late.false w.count-is w.numbers-is
    ])
