-- A turn of a walk over the eight slots: the slots that are left, from i on, complete to the answer. A walk that finds none has passed them all.
use mathlib.Core.Bool.{Bool, true, false, cond}
use mathlib.Core.Path.{◌≡◌}
use Prim.Native.Nat.{ℕ, zero, suc, ◌+◌, ◌-◌, ◌<◌, ◌≤◌}
use native.Mathlib.Omega.{arith}
use Rattle.std.proofs.Common.{⊎_elim, eq-or-lt_of_le}
use Rattle.std.specs.Prelude.{Option, Some, None}
use Rattle.rules.specs.Bools.{split}
use Rattle.slot.specs.declared.Slot.{Slot}
use Rattle.slot.specs.declared.Slots.{Slots}
use Rattle.slot.specs.Slots.{slot_at, is_occupied, first_from, first_slot}
use Rattle.slot.specs.Laws.{from_on, is_met}

module _ (p : Slot → Bool) (h : Slots) where
  module _ (i : ℕ) (answer : Option ℕ) (inv : first_from p h i (8 - i) ≡ answer) where
    turn : i < 8 → cond (is_met p h i) (Some i) (first_from p h (i + 1) (8 - (i + 1))) ≡ answer
    turn l = let w : 8 - i ≡ suc (8 - (i + 1)) = omega arith in rw w at inv

    pub met_here : i < 8 → is_occupied h i ≡ true → p (slot_at h i) ≡ true → Some i ≡ answer
    met_here l o t = rw (o, t) at (turn l)

    pub other : i < 8 → is_occupied h i ≡ true → p (slot_at h i) ≡ false → first_from p h (i + 1) (8 - (i + 1)) ≡ answer
    other l o t = rw (o, t) at (turn l)

    pub unoccupied : i < 8 → is_occupied h i ≡ false → first_from p h (i + 1) (8 - (i + 1)) ≡ answer
    unoccupied l o = rw o at (turn l)

  -- where none is found, none of the slots meets the test
  passed : (c i : ℕ) → first_from p h i c ≡ None → (j : ℕ) → i ≤ j → j < i + c → is_met p h j ≡ false
  passed zero i e j l m = absurd (omega arith)
  passed (suc c) i e j l m =
      split (is_met p h i)
      (λ t. let d : Some i ≡ None = rw t at e in let z : ◌≡◌ {A = ℕ} 0 1 = cc in absurd (omega arith))
      (λ t. from_on (λ (n : ℕ). n < i + suc c → is_met p h n ≡ false) i (λ _. t) (λ n a b. passed c (i + 1) (rw t at e) n a (omega arith)) j l m)

  pub none_met : first_slot p h ≡ None → (j : ℕ) → j < 8 → is_met p h j ≡ false
  unfolding first_slot
  none_met e j l = passed 8 0 e j (omega arith) (omega arith)

-- what holds of those before i, and of i, holds of those before i + 1
pub before_next : (P : ℕ → Type 0) (i : ℕ) → ((j : ℕ) → j < i → P j) → P i → (j : ℕ) → j < i + 1 → P j
before_next P i before here j l =
    ⊎_elim (λ (e : j ≡ i). rw e here) (λ (m : j < i). before j m) (eq-or-lt_of_le (omega arith))
