-- `map_checkpoint::keep::move_up` meets its contract. The loop's invariant: the picked versions of the first i rows stand in the first rows,
-- and the rows behind them are as they were.
use mathlib.Core.Path.{◌≡◌, refl, ap, sym, ◌∙◌}
use mathlib.Core.Bool.{Bool, true, false}
use mathlib.Core.List.{List, ◌∷◌}
use Prim.Native.Nat.{ℕ, suc, ◌+◌, ◌≤◌, ◌<◌}
use native.Mathlib.Numerals.{add-one}
use native.Mathlib.Omega.{arith}
use lib.ListN.{length, get_or, set}
use Rattle.versions.specs.declared.Version.{Version}
use Rattle.versions.specs.Versions.{Columns, columns, version_at, versions_of}
use Rattle.versions.specs.Columns.{Spans, each, picked, over, Moved}
use Rattle.versions.specs.Laws.{length_versions, columns_same, lent_fewer}
use Rattle.map_checkpoint.proofs.Cells.{long_set, over_behind, over_more}
use Rattle.map_checkpoint.proofs.keep.move_up.Goals as goal
use Rattle.map_checkpoint.proofs.keep.move_up.Goals.{then-picks-i, else-picks-i}

-- a version's field is written behind the versions that moved up before it
write : (field : Version → ℕ) (rows : List Version) (cells : List ℕ) (m i : ℕ) (v : Version) → m ≡ length rows → m ≤ i → i < length cells
    → field v ≡ get_or cells i 0 → set (over field rows cells) m (get_or (over field rows cells) i 0) ≡ over field (v ∷ rows) cells
write field rows cells m i v c l h f =
    let r : get_or (over field rows cells) i 0 ≡ field v = over_behind field rows cells i (omega arith) ∙ sym f in
    rw (r, c) (over_more field rows cells v (omega arith))

module _ (picks : List Bool) (cs : Columns) {cs₁ cs₂ : Columns} {m n : ℕ} (i : ℕ) (w : Moved (picked picks (versions_of i cs)) cs cs₁ m) where
  moves : get_or picks i false ≡ true → m ≤ i → Spans (i + 1) cs → cs₂ ≡ each (λ field cells. set cells m (get_or cells i 0)) cs₁ → n ≡ m + 1
      → Moved (picked picks (versions_of (i + 1) cs)) cs cs₂ n
  moves e l h a f =
      let old = picked picks (versions_of i cs) in
      let here = version_at i cs in
      let z : picked picks (versions_of (i + 1) cs) ≡ here ∷ old = rw (add-one, length_versions i cs, e) in
      rw z
      (record {
        count = f ∙ (add-one m ∙ ap suc w.count);
        cells =
            rw (a, w.cells)
            (columns_same
            (write (λ v. v.key) old cs.keys m i here w.count l (omega (arith, h.keys)) refl)
            (write (λ v. v.time) old cs.times m i here w.count l (omega (arith, h.times)) refl)
            (write (λ v. v.value) old cs.values m i here w.count l (omega (arith, h.values)) refl)
            (write (λ v. v.mark) old cs.marks m i here w.count l (omega (arith, h.marks)) refl));
      })

  passes : get_or picks i false ≡ false → cs₂ ≡ cs₁ → n ≡ m → Moved (picked picks (versions_of (i + 1) cs)) cs cs₂ n
  passes e a f =
      let z : picked picks (versions_of (i + 1) cs) ≡ picked picks (versions_of i cs) = rw (add-one, length_versions i cs, e) in
      rw (z, a, f) w

pub loop-i-preserved : goal.loop-i-preserved
loop-i-preserved c =
    let l = c.loop-i in
    let a = c.args in
    let cs = columns a.keys.now a.times.now a.values.now a.marks.now in
    elim c.if-picks-i.branch [
      | then-picks-i w ↦ (
        omega arith,
        rw (w.keys-is, w.times-is, w.values-is, w.marks-is) (long_set l.invariant.1 l.kept (λ cells. get_or cells l.i 0)),
        moves a.picks.now cs l.i l.invariant.2 w.if-picks-i.true l.invariant.0 (lent_fewer c.requires.0 (omega arith))
            (columns_same w.keys-is w.times-is w.values-is w.marks-is) w.kept-is,
      )
      | else-picks-i w ↦ (
        omega arith,
        rw (w.keys-is, w.times-is, w.values-is, w.marks-is) l.invariant.1,
        passes a.picks.now cs l.i l.invariant.2 w.if-picks-i.false (columns_same w.keys-is w.times-is w.values-is w.marks-is) w.kept-is,
      )
    ]
