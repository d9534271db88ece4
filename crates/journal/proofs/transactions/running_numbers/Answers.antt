-- `journal::transactions::running_numbers` meets its contract. The loop's invariant: the column holds the running transactions that the records
-- passed begin, and top is one more than the highest number in them. Assumes nothing.
use mathlib.Core.Path.{refl}
use Prim.Native.Nat.{ℕ, ◌+◌, max}
use Rattle.rules.specs.declared.Record.{Record}
use Rattle.rules.specs.Transactions.{opens, running_in}
use Rattle.record.specs.Bytes.{records_in}
use Rattle.record.specs.Walks.{onward, turn}
use Rattle.journal.specs.Ends.{top}
use Rattle.journal.specs.Gathered.{Gathered}
use Rattle.journal.specs.GatheredLaws.{gathered_more, gathered_same}
use native.Mathlib.Omega.{arith}
use Rattle.journal.proofs.transactions.running_numbers.Goals as goal
use Rattle.journal.proofs.transactions.running_numbers.Goals.{then-opens_at, else-opens_at}

pub loop-i-preserved : goal.loop-i-preserved
loop-i-preserved c =
    let l = c.loop-i in
    let a = c.args in
    let r = c.at-r in
    let j = a.records.bytes.now in
    let rs = records_in l.i j in
    let whole = records_in a.records.used j in
    let test = opens whole r.result rs in (
      turn top (λ (x : Record) (m : ℕ). max m (x.transaction + 1)) (λ x rs. refl) j l.i _ _ _ c.at_least_after-top.ensures r.ensures l.invariant.0,
      onward (λ ys. Gathered (running_in whole ys) (l.i + 1) c.if-opens_at.count a.numbers.now c.if-opens_at.numbers) j l.i _ r.ensures
          (elim c.if-opens_at.branch [
            | then-opens_at w ↦ gathered_more (running_in whole rs) l.i l.count a.numbers.now l.numbers l.invariant.1 test _ c.opens_at.ensures
                r.result.transaction _ _ (omega (arith, c.requires)) w.if-opens_at.true w.count-is w.numbers-is
            | else-opens_at w ↦ gathered_same (running_in whole rs) l.i l.count a.numbers.now l.numbers l.invariant.1 test _ c.opens_at.ensures
                r.result.transaction _ _ w.if-opens_at.false w.count-is w.numbers-is
          ]),
    )
