-- A column while versions move up in it, one row more, and once its freed rows are cleared.
use mathlib.Core.Path.{◌≡◌, ap, ◌∙◌}
use mathlib.Core.List.{List, [], ◌∷◌, ◌++◌, append_assoc}
use Prim.Native.Nat.{ℕ, suc, ◌+◌, ◌-◌, ◌≤◌, ◌<◌}
use native.Mathlib.Omega.{arith}
use lib.ListN.{length, get_or, drop, set, length-set}
use lib.Seq.{drop-cons, drop-drop, drop-append-add, get_or-append-add, get_or-drop, set_at, take_at}
use Rattle.versions.specs.declared.Version.{Version}
use Rattle.versions.specs.Versions.{Columns}
use Rattle.versions.specs.Columns.{Long, each, column, over, zeroed, thinned_column}
use Rattle.versions.specs.Laws.{each_long, none_lent, length_column}

-- one cell of each column is written
pub long_set : {cs cs' : Columns} → Long cs cs' → (i : ℕ) (x : List ℕ → ℕ) → Long cs (each (λ field cells. set cells i (x cells)) cs')
long_set {cs} l i x = each_long (none_lent cs) (λ field cells. set cells i (x cells)) (λ field cells _. length-set cells i (x cells)) l

-- one row more is written behind those that stand in front
pub front_more : (front cells : List ℕ) (n x : ℕ) → length front ≡ n → n < length cells
    → set (front ++ drop n cells) n x ≡ (front ++ (x ∷ [])) ++ drop (suc n) cells
front_more front cells n x e h = rw (drop-cons cells n 0 h, set_at front (get_or cells n 0) (drop (suc n) cells) x n e, append_assoc)

module _ (field : Version → ℕ) (rows : List Version) (cells : List ℕ) where
  -- a row behind those that are written is as it was
  pub over_behind : (i : ℕ) → length rows ≤ i → get_or (over field rows cells) i 0 ≡ get_or cells i 0
  over_behind i l =
      let z : i ≡ length (column field rows) + (i - length rows) = rw length_column (omega arith) in
      let y : length rows + (i - length rows) ≡ i = omega arith in
      ap (λ (j : ℕ). get_or (over field rows cells) j 0) z
      ∙ (get_or-append-add (column field rows) (drop (length rows) cells) (i - length rows) 0
      ∙ (get_or-drop (length rows) cells (i - length rows) 0 ∙ ap (λ (j : ℕ). get_or cells j 0) y))

  -- one version more is written
  pub over_more : (v : Version) → length rows < length cells → set (over field rows cells) (length rows) (field v) ≡ over field (v ∷ rows) cells
  over_more v h = front_more (column field rows) cells (length rows) (field v) (length_column field rows) h

  -- the rows that are left over are cleared
  pub over_cleared : (n : ℕ) → length rows ≤ n → zeroed (length rows) n (over field rows cells) ≡ thinned_column field rows n cells
  over_cleared n l =
      let z : n ≡ length (column field rows) + (n - length rows) = rw length_column (omega arith) in
      let y : length rows + (n - length rows) ≡ n = omega arith in
      let back : drop n (over field rows cells) ≡ drop n cells =
      ap (λ (j : ℕ). drop j (over field rows cells)) z
      ∙ (drop-append-add (column field rows) (drop (length rows) cells) (n - length rows)
      ∙ (drop-drop (n - length rows) (length rows) cells ∙ ap (λ (j : ℕ). drop j cells) y))
      in
      rw (back, take_at (column field rows) (drop (length rows) cells) (length rows) (length_column field rows))
