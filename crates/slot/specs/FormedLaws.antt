-- The slots are formed when they are empty, and stay so whatever is opened, noted or closed; formed slots pass the shape test. Assumes nothing.
use Rattle.std.specs.Prelude.{true, ◌≡◌, refl, ℕ, ◌<◌, eqb, ltb, set}
use Rattle.std.proofs.lemmas.Bool.{false≢true, eqb-false}
use Rattle.std.proofs.Common.{sym, ◌∙◌, arith, eqb-true, ltb-true, length-set, get_or-set_same, get_or-set_other}
use Rattle.rules.specs.declared.Effect.{Effect}
use Rattle.rules.specs.Limits.{most_running, most_keys}
use Rattle.rules.specs.Bools.{split}
use Rattle.slot.specs.declared.Slot.{Slot}
use Rattle.slot.specs.declared.Slots.{Slots}
use Rattle.slot.specs.BitLaws.{past, bit_other, with_below}
use Rattle.slot.specs.Slot.{opened_slot, empty_slot, noted}
use Rattle.slot.specs.Slots.{empty_slots, no_slot, slot_at, is_occupied, lowest_free, is_overfull, first_slot, slots_shaped, replaced, opened_in, noted_in, closed_in}
use Rattle.slot.specs.Formed.{Rowed, Formed}
use Rattle.slot.specs.Laws.{first_slot_lem}
use Rattle.slot.specs.RowLaws.{cases, rowed_noted}

rowed_opened : (n s : ℕ) → Rowed (opened_slot n s)
rowed_opened n s = record { keys = refl; values = refl; marks = refl; count = omega arith }

pub formed_empty : Formed empty_slots
formed_empty = record { byte = omega arith; eight = refl; rowed = λ i e. absurd (false≢true (sym (past 0 i 0 (omega arith) (omega arith)) ∙ e)) }

-- slot i alone is another, with its rows in order if it is occupied
formed_set : (h h' : Slots) (i : ℕ) (s : Slot) → Formed h → i < most_running → h'.occupied < 256 → h'.slots ≡ set h.slots i s
    → ((j : ℕ) → (j ≡ i → ⊥) → is_occupied h' j ≡ is_occupied h j) → (is_occupied h' i ≡ true → Rowed s) → Formed h'
formed_set h h' i s w l b e f r =
    record {
      byte = b;
      eight = rw (e, length-set) w.eight;
      rowed = λ j t.
          split (eqb j i)
          (λ q.
          let z = eqb-true j i q in
          rw (e, z, get_or-set_same h.slots i s no_slot (omega (arith, w.eight))) (r (rw z at t)))
          (λ q.
          let d = eqb-false j i q in
          rw (e, get_or-set_other h.slots i j s no_slot d) (w.rowed j (sym (f j d) ∙ t)));
    }

formed_replaced : (h : Slots) (i b : ℕ) (s : Slot) → Formed h → i < most_running → b < 2 → Rowed s → Formed (replaced h i b s)
formed_replaced h i b s w l k r =
    formed_set h (replaced h i b s) i s w l (with_below most_running i h.occupied b k l w.byte) refl (λ j d. bit_other i j h.occupied b k d) (λ _. r)

pub formed_opened : (h : Slots) (n s : ℕ) → Formed h → Formed (opened_in h n s)
formed_opened h n s w =
    split (ltb (lowest_free h) most_running)
    (λ t. rw t (formed_replaced h (lowest_free h) 1 (opened_slot n s) w (ltb-true (lowest_free h) most_running t) (omega arith) (rowed_opened n s)))
    (λ t. rw t w)

pub formed_closed : (h : Slots) (i : ℕ) → Formed h → i < most_running → Formed (closed_in h i)
formed_closed h i w l = formed_replaced h i 0 empty_slot w l (omega arith) (rowed_opened 0 0)

pub formed_noted : (h : Slots) (i k : ℕ) (x : Effect) → Formed h → i < most_running → Formed (noted_in h i k x)
formed_noted h i k x w l =
    formed_set h (noted_in h i k x) i (noted (slot_at h i) k x) w l w.byte refl (λ j d. refl) (λ t. rowed_noted (slot_at h i) (w.rowed i t) k x)

-- formed slots pass the shape test
pub formed_shaped : (h : Slots) → Formed h → slots_shaped h ≡ true
formed_shaped h w =
    cases (first_slot is_overfull h)
    (λ i e.
    let o = first_slot_lem is_overfull h e in
    absurd (omega (arith, ltb-true most_keys (slot_at h i).count o.meets, (w.rowed i o.occupied).count)))
    (λ e. rw e)
