-- `map_checkpoint::keep::pick_kept` meets its contract: a row is picked as late, as named by the table, or as the newest of key 0, which is all that stays.
use mathlib.Core.Path.{◌≡◌, refl, ◌∙◌}
use mathlib.Core.Bool.{Bool, true, false, ◌||◌}
use mathlib.Core.List.{List}
use Prim.Native.Nat.{ℕ}
use native.Mathlib.Omega.{arith}
use lib.Dec.{ltb}
use lib.ListN.{get_or, take}
use Rattle.rules.specs.Lists.{among}
use Rattle.versions.specs.Versions.{Columns, keyed, version_at, versions_of, newest, is_row, is_kept}
use Rattle.table.specs.Table.{Next}
use Rattle.table.specs.Laws.{next_within}
use Rattle.newest.specs.Newest.{newest_rows}
use Rattle.newest.specs.Laws.{named, kept_row}
use Rattle.map_checkpoint.proofs.keep.pick_kept.Goals as goal

last_first : (a b c : Bool) → (a || (b || c)) ≡ (c || (a || b))
last_first true b true = refl
last_first true b false = refl
last_first false true true = refl
last_first false true false = refl
last_first false false true = refl
last_first false false false = refl

picked : (ks ts : List ℕ) (others : Columns) (t n : ℕ) {a b a' b' : List ℕ} {m : ℕ} → Next (newest_rows ks ts t n) a b a' b' m → (i : ℕ) (late also all : Bool)
    → late ≡ ltb t (get_or ts i 0) → also ≡ (among i (take m b') || late) → all ≡ (is_row i (newest 0 t (versions_of n (keyed ks ts others))) || also)
    → all ≡ is_kept t (versions_of n (keyed ks ts others)) i (version_at i (keyed ks ts others))
picked ks ts others t n {b' = b'} {m = m} w i late also all p q r =
    rw (r, q, p)
    (last_first (is_row i (newest 0 t (versions_of n (keyed ks ts others)))) (among i (take m b')) (ltb t (get_or ts i 0)) ∙ rw (kept_row ks ts t n w others i))

pub pick_named-requires : goal.pick_named-requires
pick_named-requires c =
    let a = c.args in (
      (next_within _ _ _ _ _ _ c.newest_rows-n.ensures).in_values,
      λ x h. omega (arith, named a.stamps.keys.now a.stamps.times.now a.t a.stamps.used c.newest_rows-n.ensures x h),
    )

pub returns : goal.returns
returns c others i h =
    let a = c.args in
    picked a.stamps.keys.now a.stamps.times.now others a.t a.stamps.used c.newest_rows-n.ensures i _ _ _ (c.pick_late.ensures i h) (c.pick_named.ensures i)
    (c.pick_zero.ensures others i)
