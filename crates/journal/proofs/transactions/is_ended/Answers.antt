-- `journal::transactions::is_ended` meets its contract. The loop's invariant: an end stands from the first place on exactly if one stands among the
-- records that are left. Assumes nothing.
use mathlib.Core.Path.{◌≡◌, refl, sym, ap, ◌∙◌}
use mathlib.Core.Bool.{Bool, false, ◌||◌}
use mathlib.Core.List.{List}
use Prim.Native.Nat.{ℕ, suc, ◌+◌, ◌-◌, ◌*◌, ◌<◌}
use Rattle.rules.specs.declared.Record.{Record}
use Rattle.rules.specs.Kinds.{record_size}
use Rattle.record.specs.Bytes.{record_at}
use Rattle.journal.specs.Ends.{ends, ended_from}
use native.Mathlib.Omega.{arith}
use Rattle.journal.proofs.transactions.is_ended.Goals as goal

-- the record at i ends it, or one of the others that are left
module _ (n : ℕ) (b : List ℕ) (i to : ℕ) (r : Record) (met : Bool) (e : r ≡ record_at b (i * record_size)) (d : met ≡ ends n r) (l : i < to) where
  split_off : ended_from n b i (to - i) ≡ (met || ended_from n b (i + 1) (to - (i + 1)))
  split_off = let w : to - i ≡ suc (to - (i + 1)) = omega arith in rw (w, d, e)

  passed : met ≡ false → ended_from n b i (to - i) ≡ ended_from n b (i + 1) (to - (i + 1))
  passed f = split_off ∙ ap (λ (x : Bool). x || ended_from n b (i + 1) (to - (i + 1))) f

pub loop-i-preserved : goal.loop-i-preserved
loop-i-preserved c =
    let l = c.loop-i in
    let a = c.args in
    let r = c.at in
    sym (passed a.n a.records.bytes.now l.i a.records.used r.result _ r.ensures c.ends.ensures (omega arith) c.if-ends.false) ∙ l.invariant

pub returns-then-ends : goal.returns-then-ends
returns-then-ends c =
    let l = c.loop-i in
    let a = c.args in
    let r = c.at in
    sym (split_off a.n a.records.bytes.now l.i a.records.used r.result _ r.ensures c.ends.ensures (omega arith) ∙ rw c.if-ends.true refl) ∙ l.invariant
