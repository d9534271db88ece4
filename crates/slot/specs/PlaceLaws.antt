-- What is found, opened, noted and closed in the slots is found, opened, noted and closed in the places that they mean. Assumes nothing.
use Rattle.std.specs.Prelude.{true, ◌||◌, List, [], ◌∷◌, ◌≡◌, refl, ℕ, zero, suc, ◌+◌, ◌/◌, ◌%◌, ◌^◌, ◌<◌, ◌≤◌, ltb, length, Some}
use Rattle.std.specs.Option.{is_some}
use Rattle.std.proofs.Common.{ap₂, ◌∙◌, add-zero, zero-add, arith, eqb-true, ltb-true, ltb-false, get_or-set_other}
use Rattle.std.proofs.lemmas.Bool.{eqb-false}
use Rattle.std.specs.Int.Count.{ones, ones_step}
use Rattle.std.proofs.Math.Arith.{lt-one}
use Rattle.std.proofs.Math.Seq.{get_or-set_same}
use Rattle.rules.specs.declared.Effect.{Effect}
use Rattle.rules.specs.Limits.{most_running, most_keys}
use Rattle.rules.specs.Bools.{split}
use Rattle.slot.specs.declared.Slot.{Slot}
use Rattle.slot.specs.declared.Slots.{Slots}
use Rattle.slot.specs.Bits.{bit, zero_from}
use Rattle.slot.specs.BitLaws.{half, bit_same, bit_other, zero_from_lem}
use Rattle.slot.specs.Slot.{opened_slot, empty_slot, noted}
use Rattle.slot.specs.Slots.{empty_slots, no_slot, slot_at, is_occupied, lowest_free, first_from, first_slot, has_number, is_below, slot_of, slots_hold, replaced, opened_in, noted_in, closed_in}
use Rattle.slot.specs.Formed.{Formed}
use Rattle.slot.specs.Laws.{first_from_lem, first_slot_lem}
use Rattle.slot.specs.Places.{Place, free, taken, has_key, note, place_of, open_in, amend, occupied, holds, slot_rows, place_in, place_at, places_from, places_of}
use Rattle.slot.specs.RowLaws.{noted_place}

-- eight free places
pub empty_places : places_of empty_slots ≡ free ∷ free ∷ free ∷ free ∷ free ∷ free ∷ free ∷ free ∷ []
unfolding places_of
empty_places = refl

-- the place of a transaction
place_from : (h : Slots) (n i c : ℕ) → place_of n (places_from h i c) ≡ place_in h (first_from (has_number n) h i c)
place_from h n i zero = refl
place_from h n i (suc c) =
    split (is_occupied h i)
    (λ o. split (has_number n (slot_at h i)) (λ t. rw (o, t)) (λ t. rw (o, t) (place_from h n (i + 1) c)))
    (λ o. rw o (place_from h n (i + 1) c))

pub place_slot : (h : Slots) (n : ℕ) → place_of n (places_of h) ≡ place_in h (slot_of h n)
unfolding places_of first_slot
place_slot h n = place_from h n 0 most_running

-- a time above a running snapshot
holds_from : (h : Slots) (t i c : ℕ) → holds t (places_from h i c) ≡ is_some (first_from (is_below t) h i c)
holds_from h t i zero = refl
holds_from h t i (suc c) =
    split (is_occupied h i)
    (λ o. split (is_below t (slot_at h i)) (λ e. rw (o, e)) (λ e. rw (o, e) (holds_from h t (i + 1) c)))
    (λ o. rw o (holds_from h t (i + 1) c))

pub holds_slots : (h : Slots) (t : ℕ) → holds t (places_of h) ≡ slots_hold h t
unfolding places_of first_slot
holds_slots h t = holds_from h t 0 most_running

-- how many run: m has the c bits of the occupied slots from i on
ones_from : (h : Slots) (c i m : ℕ) → m < 2 ^ c → ((j : ℕ) → is_occupied h (i + j) ≡ bit m j) → occupied (places_from h i c) ≡ ones m
unfolding ones
ones_from h zero i m l e = rw (lt-one l)
ones_from h (suc c) i m l e =
    let b : is_occupied h i ≡ bit m 0 = rw add-zero at (e 0) in
    let w = ones_from h c (i + 1) (m / 2) (half c m l) (λ j. let v : i + 1 + j ≡ i + suc j = omega arith in rw v (e (suc j))) in
    split (bit m 0)
    (λ t. let o = eqb-true (m % 2) 1 t in rw (b, t, ones_step m, o, w) (omega arith))
    (λ t.
    let o = eqb-false (m % 2) 1 t in
    let z : m % 2 ≡ 0 = omega arith in
    rw (b, t, ones_step m, z, w) (omega arith))

pub occupied_places : (h : Slots) → h.occupied < 256 → occupied (places_of h) ≡ ones h.occupied
unfolding places_of
occupied_places h l = ones_from h most_running 0 h.occupied l (λ j. rw zero-add)

-- places are known one by one
same_from : (h h' : Slots) (i c : ℕ) → ((j : ℕ) → i ≤ j → place_at h' j ≡ place_at h j) → places_from h' i c ≡ places_from h i c
same_from h h' i zero e = refl
same_from h h' i (suc c) e = ap₂ (λ (p : Place) (ps : List Place). p ∷ ps) (e i (omega arith)) (same_from h h' (i + 1) c (λ j l. e j (omega arith)))

-- the slots h' differ from h in slot r alone, which means p
module _ (h h' : Slots) (r : ℕ) (p : Place) (there : place_at h' r ≡ p) (others : (j : ℕ) → (j ≡ r → ⊥) → place_at h' j ≡ place_at h j) where
  after : (i c : ℕ) → r < i → places_from h' i c ≡ places_from h i c
  after i c l = same_from h h' i c (λ j m. others j (λ q. omega arith))

  amend_from : (n i c : ℕ) → first_from (has_number n) h i c ≡ Some r → places_from h' i c ≡ amend n p (places_from h i c)
  amend_from n i zero e = let z : ◌≡◌ {A = ℕ} 0 1 = cc in absurd (omega arith)
  amend_from n i (suc c) e =
      split (is_occupied h i)
      (λ o.
      split (has_number n (slot_at h i))
      (λ t.
      let q : Some i ≡ Some r = rw (o, t) at e in
      let z : i ≡ r = cc in
      rw (o, t) (ap₂ (λ (x : Place) (xs : List Place). x ∷ xs) (rw z there) (after (i + 1) c (omega arith))))
      (λ t.
      let e' : first_from (has_number n) h (i + 1) c ≡ Some r = rw (o, t) at e in
      let m = (first_from_lem (has_number n) h c (i + 1) r e').from in
      rw (others i (λ q. omega arith), o, t, amend_from n (i + 1) c e')))
      (λ o.
      let e' : first_from (has_number n) h (i + 1) c ≡ Some r = rw o at e in
      let m = (first_from_lem (has_number n) h c (i + 1) r e').from in
      rw (others i (λ q. omega arith), o, amend_from n (i + 1) c e'))

  open_from : (n s i c : ℕ) → p ≡ taken n s [] → zero_from h.occupied i c ≡ r → r < i + c → places_from h' i c ≡ open_in n s (places_from h i c)
  open_from n s i zero q e l = let m = zero_from_lem h.occupied i 0 in absurd (omega arith)
  open_from n s i (suc c) q e l =
      split (is_occupied h i)
      (λ o.
      let e' : zero_from h.occupied (i + 1) c ≡ r = rw o at e in
      let m = zero_from_lem h.occupied (i + 1) c in
      rw (others i (λ q. omega arith), o, open_from n s (i + 1) c q e' (omega arith)))
      (λ o.
      let z : i ≡ r = rw o at e in
      rw o (ap₂ (λ (x : Place) (xs : List Place). x ∷ xs) (rw z (there ∙ q)) (after (i + 1) c (omega arith))))

-- where no place is free, none is opened
full_from : (h : Slots) (n s i c : ℕ) → zero_from h.occupied i c ≡ i + c → places_from h i c ≡ open_in n s (places_from h i c)
full_from h n s i zero e = refl
full_from h n s i (suc c) e =
    split (is_occupied h i)
    (λ o.
    let e' : zero_from h.occupied (i + 1) c ≡ i + suc c = rw o at e in
    rw (o, ← full_from h n s (i + 1) c (omega arith)))
    (λ o. let z : i ≡ i + suc c = rw o at e in absurd (omega arith))

module _ (h : Slots) (i b : ℕ) (s : Slot) (k : b < 2) where
  -- the other slots mean what they meant
  others : (j : ℕ) → (j ≡ i → ⊥) → place_at (replaced h i b s) j ≡ place_at h j
  others j d = rw (bit_other i j h.occupied b k d, get_or-set_other h.slots i j s no_slot d)

-- a new transaction goes into the lowest free place
pub opened_places : (h : Slots) (n s : ℕ) → length h.slots ≡ most_running → places_of (opened_in h n s) ≡ open_in n s (places_of h)
unfolding places_of lowest_free
opened_places h n s l =
    let r = lowest_free h in
    split (ltb r most_running)
    (λ t.
    let m = ltb-true r most_running t in
    rw t
    (open_from h (replaced h r 1 (opened_slot n s)) r (taken n s [])
    (rw (bit_same r h.occupied 1 (omega arith), get_or-set_same h.slots r (opened_slot n s) no_slot (omega arith)))
    (others h r 1 (opened_slot n s) (omega arith))
    n s 0 most_running refl refl m))
    (λ t. let m = ltb-false r most_running t in let w = zero_from_lem h.occupied 0 most_running in rw t (full_from h n s 0 most_running (omega arith)))

module _ (h : Slots) (n : ℕ) {i : ℕ} (e : slot_of h n ≡ Some i) where
  -- the place of a transaction that ends is free
  pub closed_places : places_of (closed_in h i) ≡ amend n free (places_of h)
  unfolding places_of first_slot
  closed_places =
      amend_from h (closed_in h i) i free
      (rw (bit_same i h.occupied 0 (omega arith)))
      (others h i 0 empty_slot (omega arith))
      n 0 most_running e

  -- an update noted in its slot is noted in its rows, where there is room
  pub noted_places : Formed h → (k : ℕ) (x : Effect) → (has_key k (slot_rows (slot_at h i)) || ltb (slot_at h i).count most_keys) ≡ true
      → places_of (noted_in h i k x) ≡ amend n (taken (slot_at h i).number (slot_at h i).snapshot (note k x (slot_rows (slot_at h i)))) (places_of h)
  unfolding places_of first_slot
  noted_places w k x f =
      let o = first_slot_lem (has_number n) h e in
      amend_from h (noted_in h i k x) i (taken (slot_at h i).number (slot_at h i).snapshot (note k x (slot_rows (slot_at h i))))
      (rw (o.occupied, get_or-set_same h.slots i (noted (slot_at h i) k x) no_slot (omega (arith, o.below, w.eight))) (noted_place (slot_at h i) (w.rowed i o.occupied) k x f))
      (λ j d. rw (get_or-set_other h.slots i j (noted (slot_at h i) k x) no_slot d))
      n 0 most_running e
