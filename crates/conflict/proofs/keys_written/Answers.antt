-- `conflict::keys_written` meets its contract. The loop's invariant: the column holds the distinct keys of the records passed.
-- Assumes nothing.
use Prim.Native.Nat.{◌+◌}
use lib.ListN.{take}
use Rattle.rules.specs.Transactions.{of, keys_written}
use Rattle.record.specs.Bytes.{records_in}
use Rattle.record.specs.Walks.{onward}
use Rattle.journal.specs.Gathered.{Gathered}
use Rattle.conflict.specs.Keys.{counting, new_key}
use Rattle.journal.specs.GatheredLaws.{gathered_more, gathered_same}
use Rattle.conflict.specs.KeysLaws.{keys_held, keys_more}
use native.Mathlib.Omega.{arith}
use Rattle.conflict.proofs.keys_written.Goals as goal
use Rattle.conflict.proofs.keys_written.Goals.{then-is_new_key, else-is_new_key}

pub loop-i-preserved : goal.loop-i-preserved
loop-i-preserved c =
    let l = c.loop-i in
    let a = c.args in
    let r = c.at-r in
    let j = a.records.bytes.now in
    let rs = records_in l.i j in
    let own = counting a.adds (of a.n rs) in
    let xs = keys_written own in
    let test = new_key a.n a.adds (take l.count l.keys) r.result in
    let told = keys_held own l.i l.count a.keys.now l.keys l.invariant r.result.key in
    onward (λ ys. Gathered (keys_written (counting a.adds (of a.n ys))) (l.i + 1) c.if-is_new_key.count a.keys.now c.if-is_new_key.keys) j l.i _ r.ensures
    (rw (keys_more a.n a.adds (take l.count l.keys) r.result rs told)
    (elim c.if-is_new_key.branch [
      | then-is_new_key w ↦ gathered_more xs l.i l.count a.keys.now l.keys l.invariant test _ c.is_new_key.ensures r.result.key _ _ (omega arith)
          w.if-is_new_key.true w.count-is w.keys-is
      | else-is_new_key w ↦ gathered_same xs l.i l.count a.keys.now l.keys l.invariant test _ c.is_new_key.ensures r.result.key _ _
          w.if-is_new_key.false w.count-is w.keys-is
    ]))
