-- `journal::times::is_future` meets its contract. The loop's invariant: the time lies above last exactly if it lies above last of the records that are
-- left. Assumes nothing.
use mathlib.Core.Path.{◌≡◌, sym, ap, ◌∙◌}
use mathlib.Core.Bool.{Bool, true, false, ◌&&◌}
use mathlib.Core.List.{List}
use Prim.Native.Nat.{ℕ, suc, ◌-◌, ◌*◌, ◌≤◌, max}
use lib.Dec.{leb, ltb}
use borrow.Author.Tests.{leb-true, leb-false, ltb-true, ltb-false, lt-ltb, le-ltb}
use Rattle.rules.specs.declared.Record.{Record}
use Rattle.rules.specs.Bools.{split, and_left, and_right}
use Rattle.rules.specs.Kinds.{record_size, is_commit}
use Rattle.rules.specs.Times.{last, last_step}
use Rattle.record.specs.Bytes.{records_in, record_at}
use native.Mathlib.Omega.{arith}
use Rattle.journal.proofs.times.is_future.Goals as goal

-- a commit at or after t puts last there; any other record leaves the question to those before it
module _ (t : ℕ) (r : Record) (l : ℕ) (b : Bool) (d : b ≡ (is_commit r && leb t r.time)) where
  met : b ≡ true → ltb (last_step r l) t ≡ false
  met e =
      let both : (is_commit r && leb t r.time) ≡ true = sym d ∙ e in
      rw (and_left (is_commit r) (leb t r.time) both)
      (le-ltb (max l r.time) t (omega (arith, leb-true t r.time (and_right (is_commit r) (leb t r.time) both))))

  passed : b ≡ false → ltb (last_step r l) t ≡ ltb l t
  passed e =
      split (is_commit r)
      (λ k.
      let no : leb t r.time ≡ false = rw k at (sym d ∙ e) in
      rw k
      (split (ltb l t)
      (λ q. rw (q, lt-ltb (max l r.time) t (omega (arith, ltb-true l t q, leb-false t r.time no))))
      (λ q. rw (q, le-ltb (max l r.time) t (omega (arith, ltb-false l t q))))))
      (λ k. rw k)

-- the question at i, with record i - 1 in front
turned : (low t i : ℕ) (j : List ℕ) (r : Record) → 1 ≤ i → r ≡ record_at j ((i - 1) * record_size)
    → ltb (last low (records_in i j)) t ≡ ltb (last_step r (last low (records_in (i - 1) j))) t
turned low t i j r l e =
    let n : i ≡ suc (i - 1) = omega arith in
    ap (λ (m : ℕ). ltb (last low (records_in m j)) t) n ∙ ap (λ (x : Record). ltb (last_step x (last low (records_in (i - 1) j))) t) (sym e)

pub returns-then-reaches : goal.returns-then-reaches
returns-then-reaches c =
    let l = c.loop-i in
    let a = c.args in
    let r = c.at in
    sym
    (l.invariant ∙ turned a.low a.t l.i a.records.bytes.now r.result (omega arith) r.ensures
    ∙ met a.t r.result (last a.low (records_in (l.i - 1) a.records.bytes.now)) _ c.reaches.ensures c.if-reaches.true)

pub loop-i-preserved : goal.loop-i-preserved
loop-i-preserved c =
    let l = c.loop-i in
    let a = c.args in
    let r = c.at in
    l.invariant ∙ turned a.low a.t l.i a.records.bytes.now r.result (omega arith) r.ensures
    ∙ passed a.t r.result (last a.low (records_in (l.i - 1) a.records.bytes.now)) _ c.reaches.ensures c.if-reaches.false
