-- No second answer satisfies a contract. Assumes nothing.
use Rattle.std.specs.Prelude.{Bool, ◌≡◌, ℕ, Option}
use Rattle.std.proofs.Common.{sym, ◌∙◌}
use Rattle.std.specs.Int.Count.{ones}
use Rattle.rules.specs.declared.Effect.{Effect}
use Rattle.slot.specs.declared.Slot.{Slot}
use Rattle.slot.specs.declared.Slots.{Slots}
use Rattle.slot.specs.Slot.{empty_slot, opened_slot, key_row, effect_at, noted}
use Rattle.slot.specs.Slots.{empty_slots, slot_at, is_occupied, lowest_free, slot_of, slots_shaped, slots_hold, opened_in, closed_in}

-- the slot that `Slot::free` and `Slot::close` answer
pub free_unique : {r s : Slot} → r ≡ empty_slot → s ≡ empty_slot → r ≡ s
free_unique p q = p ∙ sym q

pub open_unique : (number snapshot : ℕ) {r s : Slot} → r ≡ opened_slot number snapshot → s ≡ opened_slot number snapshot → r ≡ s
open_unique number snapshot p q = p ∙ sym q

pub find_row_unique : (slot : Slot) (key : ℕ) {r s : Option ℕ} → r ≡ key_row slot key → s ≡ key_row slot key → r ≡ s
find_row_unique slot key p q = p ∙ sym q

pub effect_unique : (slot : Slot) (i : ℕ) {r s : Effect} → r ≡ effect_at slot i → s ≡ effect_at slot i → r ≡ s
effect_unique slot i p q = p ∙ sym q

pub note_unique : (slot : Slot) (key : ℕ) (e : Effect) {r s : Slot} → r ≡ noted slot key e → s ≡ noted slot key e → r ≡ s
note_unique slot key e p q = p ∙ sym q

pub empty_unique : {r s : Slots} → r ≡ empty_slots → s ≡ empty_slots → r ≡ s
empty_unique p q = p ∙ sym q

module _ (slots : Slots) where
  pub running_unique : {r s : ℕ} → r ≡ ones slots.occupied → s ≡ ones slots.occupied → r ≡ s
  running_unique p q = p ∙ sym q

  pub lowest_free_unique : {r s : ℕ} → r ≡ lowest_free slots → s ≡ lowest_free slots → r ≡ s
  lowest_free_unique p q = p ∙ sym q

  pub is_occupied_unique : (i : ℕ) {r s : Bool} → r ≡ is_occupied slots i → s ≡ is_occupied slots i → r ≡ s
  is_occupied_unique i p q = p ∙ sym q

  pub at_unique : (index : ℕ) {r s : Slot} → r ≡ slot_at slots index → s ≡ slot_at slots index → r ≡ s
  at_unique index p q = p ∙ sym q

  pub find_slot_unique : (number : ℕ) {r s : Option ℕ} → r ≡ slot_of slots number → s ≡ slot_of slots number → r ≡ s
  find_slot_unique number p q = p ∙ sym q

  pub opened_unique : (number snapshot : ℕ) {r s : Slots} → r ≡ opened_in slots number snapshot → s ≡ opened_in slots number snapshot → r ≡ s
  opened_unique number snapshot p q = p ∙ sym q

  pub closed_unique : (i : ℕ) {r s : Slots} → r ≡ closed_in slots i → s ≡ closed_in slots i → r ≡ s
  closed_unique i p q = p ∙ sym q

  pub shaped_unique : {r s : Bool} → r ≡ slots_shaped slots → s ≡ slots_shaped slots → r ≡ s
  shaped_unique p q = p ∙ sym q

  pub holds_unique : (t : ℕ) {r s : Bool} → r ≡ slots_hold slots t → s ≡ slots_hold slots t → r ≡ s
  holds_unique t p q = p ∙ sym q
