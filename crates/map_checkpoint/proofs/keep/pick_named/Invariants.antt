-- `map_checkpoint::keep::pick_named` meets its contract. The loop's invariant: a row is picked, or named by a cell that is left, exactly if it is to be
-- picked at the end.
use mathlib.Core.Path.{◌≡◌}
use mathlib.Core.Bool.{Bool, false, ◌||◌}
use mathlib.Core.List.{List}
use Prim.Native.Nat.{ℕ}
use lib.ListN.{take, drop, get_or}
use Rattle.rules.specs.Lists.{among}
use Rattle.map_checkpoint.proofs.keep.pick_named.Given as goal

-- the rows that are named from cell x on, and those that are picked
abbrev pub Picked : List ℕ → ℕ → ℕ → List Bool → ℕ → Bool
Picked places n x picks i = among i (drop x (take n places)) || get_or picks i false

abbrev pub invariant-loop-x : goal.invariant-loop-x
invariant-loop-x l =
    (i : ℕ) → Picked l.places l.n l.x l.picks i ≡ Picked l.places l.n 0 l.initial.picks i
