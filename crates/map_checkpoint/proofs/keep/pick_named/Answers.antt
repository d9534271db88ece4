-- `map_checkpoint::keep::pick_named` meets its contract. The loop's invariant: a row is picked, or named by a cell that is left, exactly if it is to be
-- picked at the end.
use mathlib.Core.Path.{◌≡◌, sym, ◌∙◌}
use mathlib.Core.Bool.{Bool, true, false}
use mathlib.Core.List.{List, ◌∷◌}
use Prim.Native.Nat.{ℕ, suc, ◌+◌, ◌≤◌, ◌<◌}
use native.Mathlib.Numerals.{add-one}
use native.Mathlib.Omega.{arith}
use borrow.Author.Tests.{eqb-true, eqb-false}
use lib.Dec.{eqb}
use lib.ListN.{length, take, drop, get_or, set}
use lib.Seq.{drop-cons, get_or-take, get_or-set_same, get_or-set_other, length-take-le}
use Rattle.rules.specs.Bools.{split, or_right}
use Rattle.rules.specs.Lists.{among}
use Rattle.map_checkpoint.proofs.keep.pick_named.Invariants.{Picked}
use Rattle.map_checkpoint.proofs.keep.pick_named.Goals as goal

module _ (places : List ℕ) (n x : ℕ) (picks : List Bool) (l : x < n) (h : n ≤ length places) (in-picks : get_or places x 0 < length picks) where
  cell : drop x (take n places) ≡ get_or places x 0 ∷ drop (suc x) (take n places)
  cell =
      drop-cons (take n places) x 0 (rw (length-take-le n places h) l) ∙ rw (get_or-take n places x 0 l)

  -- one cell more
  more : (i : ℕ) → Picked places n (x + 1) (set picks (get_or places x 0) true) i ≡ Picked places n x picks i
  more i =
      split (eqb (get_or places x 0) i)
      (λ e.
      let f = eqb-true (get_or places x 0) i e in
      let g : get_or (set picks (get_or places x 0) true) i false ≡ true =
      rw (← f) (get_or-set_same picks (get_or places x 0) true false in-picks)
      in
      or_right (among i (drop (x + 1) (take n places))) (get_or (set picks (get_or places x 0) true) i false) g ∙ rw (cell, e))
      (λ e.
      let ne = eqb-false (get_or places x 0) i e in
      rw (cell, e, add-one, get_or-set_other picks (get_or places x 0) i true false (λ q. ne (sym q))))

pub loop-x-preserved : goal.loop-x-preserved
loop-x-preserved c i =
    let l = c.loop-x in
    let a = c.args in
    more a.places.now a.n l.x l.picks (omega arith) c.requires.0 (omega (arith, c.requires.1 l.x (omega arith))) i ∙ l.invariant i
