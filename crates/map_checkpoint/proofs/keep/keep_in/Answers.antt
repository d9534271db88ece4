-- `map_checkpoint::keep::keep_in` meets its contract: the rows that are picked are those that stay, they have moved up, and the rest is zero.
use mathlib.Core.Path.{◌≡◌, refl}
use mathlib.Core.Bool.{Bool, false}
use mathlib.Core.List.{List}
use Prim.Native.Nat.{ℕ, zero, suc, ◌≤◌, ◌<◌}
use native.Mathlib.Omega.{arith}
use lib.ListN.{length, get_or}
use Rattle.versions.specs.declared.Version.{Version}
use Rattle.versions.specs.Versions.{Columns, columns, version_at, versions_of, is_kept, thin, kept_from}
use Rattle.versions.specs.Columns.{Spans, picked, over, Moved, zeroed, cleared, thinned_column, Kept}
use Rattle.versions.specs.Laws.{length_versions, lent_long, each_same, length_kept}
use Rattle.map_checkpoint.proofs.Cells.{over_cleared}
use Rattle.map_checkpoint.proofs.keep.keep_in.Goals as goal

-- where each pick says whether its row stays, the picked versions are those that are kept
picked_thin : (picks : List Bool) (cs : Columns) (T : ℕ) (whole : List Version) (n : ℕ)
    → ((i : ℕ) → i < n → get_or picks i false ≡ is_kept T whole i (version_at i cs)) → picked picks (versions_of n cs) ≡ thin T whole (versions_of n cs)
picked_thin picks cs T whole zero h = refl
picked_thin picks cs T whole (suc n) h =
    rw (length_versions n cs, h n (omega arith), picked_thin picks cs T whole n (λ i l. h i (omega arith)))

module _ (picks : List Bool) (cs : Columns) (T n : ℕ) (h : (i : ℕ) → i < n → get_or picks i false ≡ is_kept T (versions_of n cs) i (version_at i cs))
    {cs₁ : Columns} {r : ℕ} (moved : Moved (picked picks (versions_of n cs)) cs cs₁ r) where
  up : Moved (kept_from T (versions_of n cs)) cs cs₁ r
  up = rw (picked_thin picks cs T (versions_of n cs) n h) at moved

  few : r ≤ n
  few = rw up.count (length_kept T n cs)

  settles : Spans n cs → {cs₂ : Columns} → cs₂ ≡ cleared r n cs₁ → Kept T n cs cs₂ r
  settles l w =
      let kept = kept_from T (versions_of n cs) in
      record {
        count = up.count;
        cells =
            rw (w, up.cells, up.count)
            (each_same l (λ field cells. zeroed (length kept) n (over field kept cells)) (λ field. thinned_column field kept n)
            (λ field cells k. over_cleared field kept cells n (length_kept T n cs)));
      }

pub clear-requires : goal.clear-requires
clear-requires c =
    let a = c.args in
    let cs = columns a.keys.now a.times.now a.values.now a.marks.now in
    let w = c.new-stamps.ensures in
    let p = c.requires.0 in (
      lent_long p
          (record {
            keys = c.move_up-kept.auto.keys;
            times = c.move_up-kept.auto.times;
            values = c.move_up-kept.auto.values;
            marks = c.move_up-kept.auto.marks;
          }),
      few _ cs a.t a.used (rw (w.0, w.1, w.2) at (c.pick_kept.ensures cs)) c.move_up-kept.ensures,
    )

pub returns : goal.returns
returns c =
    let a = c.args in
    let cs = columns a.keys.now a.times.now a.values.now a.marks.now in
    let w = c.new-stamps.ensures in
    settles _ cs a.t a.used (rw (w.0, w.1, w.2) at (c.pick_kept.ensures cs)) c.move_up-kept.ensures c.requires.0 c.clear.ensures
