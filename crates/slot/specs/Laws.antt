-- What the answers of a search for a slot say of the slots. Assumes nothing.
use Rattle.std.specs.Prelude.{Bool, true, false, ◌&&◌, ◌≡◌, ℕ, zero, suc, ◌+◌, ◌<◌, ◌≤◌, Some}
use Rattle.std.proofs.Common.{⊎_elim, eq-or-lt_of_le, arith}
use Rattle.rules.specs.Limits.{most_running}
use Rattle.rules.specs.Bools.{split, and_left, and_right}
use Rattle.slot.specs.declared.Slot.{Slot}
use Rattle.slot.specs.declared.Slots.{Slots}
use Rattle.slot.specs.Slots.{slot_at, is_occupied, first_from, first_slot}

-- what holds at i and from i + 1 on holds from i on
pub from_on : (P : ℕ → Type 0) (i : ℕ) → P i → ((j : ℕ) → i + 1 ≤ j → P j) → (j : ℕ) → i ≤ j → P j
from_on P i here after j l =
    ⊎_elim (λ (e : i ≡ j). rw (← e) here) (λ (m : i < j). after j (omega arith)) (eq-or-lt_of_le l)

module _ (p : Slot → Bool) (h : Slots) where
  -- a slot that is occupied and meets the test
  abbrev pub is_met : ℕ → Bool
  is_met j = is_occupied h j && p (slot_at h j)

  -- slot r is the lowest from i on, of c, that is occupied and meets the test
  pub record Lowest (i c r : ℕ) : Type 0 where
    pub from : i ≤ r
    pub below : r < i + c
    pub occupied : is_occupied h r ≡ true
    pub meets : p (slot_at h r) ≡ true
    pub before : (j : ℕ) → i ≤ j → j < r → is_met j ≡ false

  -- the slot found is the lowest
  pub first_from_lem : (c i r : ℕ) → first_from p h i c ≡ Some r → Lowest i c r
  first_from_lem zero i r e = let z : ◌≡◌ {A = ℕ} 0 1 = cc in absurd (omega arith)
  first_from_lem (suc c) i r e =
      split (is_met i)
      (λ t.
      let q : Some i ≡ Some r = rw t at e in
      let z : i ≡ r = cc in
      record {
        from = omega arith;
        below = omega arith;
        occupied = rw (← z) (and_left (is_occupied h i) (p (slot_at h i)) t);
        meets = rw (← z) (and_right (is_occupied h i) (p (slot_at h i)) t);
        before = λ j a b. absurd (omega arith);
      })
      (λ t.
      let w = first_from_lem c (i + 1) r (rw t at e) in
      record {
        from = omega (arith, w.from);
        below = omega (arith, w.below);
        occupied = w.occupied;
        meets = w.meets;
        before = from_on (λ (j : ℕ). j < r → is_met j ≡ false) i (λ _. t) w.before;
      })

  -- the slot found is the lowest of the eight
  pub first_slot_lem : {r : ℕ} → first_slot p h ≡ Some r → Lowest 0 most_running r
  unfolding first_slot
  first_slot_lem {r} e = first_from_lem most_running 0 r e
