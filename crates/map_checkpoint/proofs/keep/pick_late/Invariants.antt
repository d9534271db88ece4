-- `map_checkpoint::keep::pick_late` meets its contract. The loop's invariant: the first i picks say which rows are late.
use mathlib.Core.Path.{◌≡◌}
use mathlib.Core.Bool.{Bool, false}
use mathlib.Core.List.{List}
use Prim.Native.Nat.{ℕ, ◌<◌}
use lib.Dec.{ltb}
use lib.ListN.{get_or}
use Rattle.map_checkpoint.proofs.keep.pick_late.Given as goal

-- row j's pick says whether the row is late
abbrev pub Picked : List Bool → List ℕ → ℕ → ℕ → Type 0
Picked picks ts t j = get_or picks j false ≡ ltb t (get_or ts j 0)

abbrev pub invariant-loop-i : goal.invariant-loop-i
invariant-loop-i l =
    (j : ℕ) → j < l.i → Picked l.picks l.times l.t j
