-- Slots of two transactions, computed. Assumes nothing.
use Rattle.std.specs.Prelude.{true, false, List, [], ◌∷◌, ◌≡◌, refl, Some, None}
use Rattle.rules.specs.declared.Effect.TheVariants.{Assign, Add}
use Rattle.slot.specs.declared.Slots.{Slots}
use Rattle.slot.specs.Slot.{empty_slot, opened_slot}
use Rattle.slot.specs.Slots.{empty_slots, lowest_free, first_slot, slot_of, slots_hold, opened_in, noted_in, closed_in}
use Rattle.slot.specs.Places.{Note, free, taken, makes, note, notes_of, places_of}

-- transactions 4 and 6, with snapshots 3 and 5
abbrev two : Slots
two = record { occupied = 3; slots = opened_slot 4 3 ∷ opened_slot 6 5 ∷ empty_slot ∷ empty_slot ∷ empty_slot ∷ empty_slot ∷ empty_slot ∷ empty_slot ∷ [] }

-- each goes into the lowest-numbered free slot
two_opened : opened_in (opened_in empty_slots 4 3) 6 5 ≡ two
unfolding lowest_free
two_opened = refl

-- the slot of the first is used again
again : slot_of (opened_in (closed_in two 0) 7 9) 7 ≡ Some 0
unfolding lowest_free first_slot
again = refl

-- a freed slot is not found by its number, nor by 0
freed : slot_of (closed_in two 0) 4 ≡ None
unfolding first_slot
freed = refl

not_zero : slot_of (closed_in two 0) 0 ≡ None
unfolding first_slot
not_zero = refl

-- of eight occupied slots none is free
none_free : lowest_free (record { occupied = 255; slots = two.slots }) ≡ 8
unfolding lowest_free
none_free = refl

-- a snapshot is not above itself
at_snapshot : slots_hold two 3 ≡ false
unfolding first_slot
at_snapshot = refl

above_snapshot : slots_hold two 4 ≡ true
unfolding first_slot
above_snapshot = refl

-- a key noted twice has one row, with both effects as one; the newest row comes first
places : places_of (noted_in (noted_in (noted_in (noted_in two 1 9 (Add 10)) 1 8 (Assign 20)) 1 9 (Add 30)) 1 8 (Add 1))
    ≡ taken 4 3 []
    ∷ taken 6 5 (record { key = 8; effect = Assign 21 } ∷ record { key = 9; effect = Add 40 } ∷ [])
    ∷ free ∷ free ∷ free ∷ free ∷ free ∷ free ∷ []
unfolding places_of
places = refl

-- any mark but 0 adds; of one key twice the older row counts, and the update goes to it
abbrev twice : List Note
twice = notes_of (9 ∷ 9 ∷ []) (1 ∷ 5 ∷ []) (7 ∷ 0 ∷ []) 2

older_counts : makes 9 twice (Some 10) ≡ Some 11
older_counts = refl

older_joined : note 9 (Add 2) twice ≡ record { key = 9; effect = Assign 5 } ∷ record { key = 9; effect = Add 3 } ∷ []
older_joined = refl
