-- `walk::State::without` meets its contract. The loop's invariant: the rest has the rows passed, without those of the number.
-- Assumes nothing.
use mathlib.Core.Path.{◌≡◌, sym, ap, ◌∙◌}
use mathlib.Core.List.{List, ◌∷◌}
use Prim.Native.Nat.{ℕ, ◌+◌, ◌<◌}
use native.Mathlib.Numerals.{add-one}
use lib.ListN.{get_or}
use borrow.Author.Tests.{eq-eqb, ne_eqb}
use Rattle.rules.specs.Transactions.{without}
use Rattle.walk.specs.declared.State.{State}
use Rattle.walk.specs.Walk.{pushed, latest, Without}
use Rattle.walk.specs.Laws.{push_room, push_rows, push_held}
use native.Mathlib.Omega.{arith}
use Rattle.walk.proofs.State.without.Goals as goal
use Rattle.walk.proofs.State.without.Goals.{then-self-i, else-self-i}

module _ (s rest v : State) (n i : ℕ) (w : Without s n i rest) (l : i < 8) where
  stays : (get_or s.numbers i 0 ≡ n → ⊥) → v ≡ pushed rest (get_or s.numbers i 0) (get_or s.snapshots i 0) → Without s n (i + 1) v
  stays d e =
      let m = get_or s.numbers i 0 in
      let t = get_or s.snapshots i 0 in
      let k : rest.count < 8 = omega (arith, w.few) in
      let q = push_room rest m t w.room k in
      let other : without n (latest (i + 1) s.numbers) ≡ m ∷ without n (latest i s.numbers) =
      rw (add-one, ne_eqb n m (λ x. d (sym x)))
      in
      rw e
      (record {
        last = w.last;
        above = w.above;
        few = omega (arith, w.few);
        room = record { numbers = q.numbers; snapshots = q.snapshots };
        rows = push_rows rest m t w.room k ∙ ap (λ (ns : List ℕ). m ∷ ns) w.rows ∙ sym other;
        held = λ snap h. push_held rest m t w.room k snap (w.held snap (λ j x. h j (omega arith))) (h i (omega arith));
      })

  goes : get_or s.numbers i 0 ≡ n → v ≡ rest → Without s n (i + 1) v
  goes d e =
      let same : without n (latest (i + 1) s.numbers) ≡ without n (latest i s.numbers) =
      rw (add-one, eq-eqb n (get_or s.numbers i 0) (sym d))
      in
      rw e
      (record {
        last = w.last;
        above = w.above;
        few = omega (arith, w.few);
        room = w.room;
        rows = w.rows ∙ sym same;
        held = λ snap h. w.held snap (λ j x. h j (omega arith));
      })

pub loop-i-preserved : goal.loop-i-preserved
loop-i-preserved c =
    let l = c.loop-i in
    let a = c.args in
    let k : l.i < 8 = omega arith in
    elim c.if-self-i.branch [
      | then-self-i w ↦ stays a.self l.rest _ a.n l.i l.invariant k w.if-self-i.true (w.rest-is ∙ w.push-rest.ensures)
      | else-self-i w ↦ goes a.self l.rest _ a.n l.i l.invariant k w.if-self-i.false w.rest-is
    ]
