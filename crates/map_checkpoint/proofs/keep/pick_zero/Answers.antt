-- `map_checkpoint::keep::pick_zero` meets its contract: the row that the search finds is picked, or there is none.
use mathlib.Core.Path.{◌≡◌, refl, sym, ◌∙◌}
use mathlib.Core.Bool.{Bool, true, false, ◌||◌}
use mathlib.Core.List.{List}
use Prim.Native.Nat.{ℕ, ◌<◌}
use native.Mathlib.Omega.{arith}
use borrow.Author.Tests.{eqb-true, eqb-false}
use lib.Dec.{eqb}
use lib.ListN.{length, get_or, set}
use lib.Seq.{get_or-set_same, get_or-set_other}
use Rattle.rules.specs.Bools.{split}
use Rattle.std.specs.Prelude.{Option, Some}
use Rattle.versions.specs.Versions.{Columns, no_columns, keyed, versions_of, newest, row_of, is_row}
use Rattle.versions.specs.Laws.{found_version, found_newest}
use Rattle.map_checkpoint.proofs.keep.pick_zero.Goals as goal

module _ (ks ts : List ℕ) (n t : ℕ) (picks : List Bool) (f : Option ℕ)
    (h : (others : Columns) → f ≡ row_of (newest 0 t (versions_of n (keyed ks ts others)))) where
  within : (j : ℕ) → f ≡ Some j → j < n
  within j e = (found_newest 0 t (keyed ks ts no_columns) n (sym (h no_columns) ∙ e)).row

  found : (j : ℕ) → f ≡ Some j → j < length picks → (others : Columns) (i : ℕ)
      → get_or (set picks j true) i false ≡ (is_row i (newest 0 t (versions_of n (keyed ks ts others))) || get_or picks i false)
  found j e l others i =
      rw (found_version 0 t (keyed ks ts others) n (sym (h others) ∙ e))
      (split (eqb i j)
      (λ q. rw (q, eqb-true i j q) (get_or-set_same picks j true false l))
      (λ q. rw q (get_or-set_other picks j i true false (eqb-false i j q))))

pub bounds-picks-j : goal.bounds-picks-j
bounds-picks-j c =
    let a = c.args in
    omega (arith, within a.stamps.keys.now a.stamps.times.now a.stamps.used a.t a.picks.now _ c.in-Some.ensures _ refl)

pub returns-in-Some : goal.returns-in-Some
returns-in-Some c =
    let a = c.args in
    let l = within a.stamps.keys.now a.stamps.times.now a.stamps.used a.t a.picks.now _ c.in-Some.ensures _ refl in
    found a.stamps.keys.now a.stamps.times.now a.stamps.used a.t a.picks.now _ c.in-Some.ensures _ refl (omega arith)
