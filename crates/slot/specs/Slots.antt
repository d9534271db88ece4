-- Rule 3.8, the eight slots: occupied ones are the one bits of a single number. Assumes nothing.
use Rattle.std.specs.Prelude.{Bool, cond, not, ◌&&◌, [], ℕ, zero, suc, ◌+◌, eqb, ltb, get_or, set, replicate, Option, Some, None}
use Rattle.std.specs.Option.{is_some}
use Rattle.rules.specs.declared.Effect.{Effect}
use Rattle.rules.specs.Limits.{most_running, most_keys}
use Rattle.slot.specs.declared.Slot.{Slot}
use Rattle.slot.specs.declared.Slots.{Slots}
use Rattle.slot.specs.Bits.{bit, with_bit, zero_from}
use Rattle.slot.specs.Slot.{opened_slot, empty_slot, noted}

-- all slots free
abbrev pub empty_slots : Slots
empty_slots = record { occupied = 0; slots = replicate most_running empty_slot }

-- what stands for a slot past the eighth
abbrev pub no_slot : Slot
no_slot = record { number = 0; snapshot = 0; count = 0; keys = []; values = []; marks = [] }

-- slot i
abbrev pub slot_at : Slots → ℕ → Slot
slot_at h i = get_or h.slots i no_slot

-- slot i is occupied
abbrev pub is_occupied : Slots → ℕ → Bool
is_occupied h i = bit h.occupied i

-- the lowest-numbered free slot, 8 where none is free
unfoldable pub lowest_free : Slots → ℕ
lowest_free h = zero_from h.occupied 0 most_running

-- of c slots from i on the lowest occupied one that meets a test
abbrev pub first_from : (Slot → Bool) → Slots → ℕ → ℕ → Option ℕ
first_from p h i zero = None
first_from p h i (suc c) = cond (is_occupied h i && p (slot_at h i)) (Some i) (first_from p h (i + 1) c)

-- the lowest occupied slot that meets a test
unfoldable pub first_slot : (Slot → Bool) → Slots → Option ℕ
first_slot p h = first_from p h 0 most_running

-- a slot has the number
abbrev pub has_number : ℕ → Slot → Bool
has_number n s = eqb s.number n

-- a slot's snapshot is below t
abbrev pub is_below : ℕ → Slot → Bool
is_below t s = ltb s.snapshot t

-- a slot has more keys than it has rows
abbrev pub is_overfull : Slot → Bool
is_overfull s = ltb most_keys s.count

-- of several occupied slots with one number the lowest
abbrev pub slot_of : Slots → ℕ → Option ℕ
slot_of h n = first_slot (has_number n) h

-- no occupied slot has more than 32 keys
abbrev pub slots_shaped : Slots → Bool
slots_shaped h = not (is_some (first_slot is_overfull h))

-- t is above the snapshot of an occupied slot
abbrev pub slots_hold : Slots → ℕ → Bool
slots_hold h t = is_some (first_slot (is_below t) h)

-- slot i replaced, its bit made b
abbrev pub replaced : Slots → ℕ → ℕ → Slot → Slots
replaced h i b s = record { occupied = with_bit h.occupied i b; slots = set h.slots i s }

-- a new transaction goes into the lowest-numbered free slot; nothing changes where none is free
abbrev pub opened_in : Slots → ℕ → ℕ → Slots
opened_in h n s = cond (ltb (lowest_free h) most_running) (replaced h (lowest_free h) 1 (opened_slot n s)) h

-- an update noted in slot i
abbrev pub noted_in : Slots → ℕ → ℕ → Effect → Slots
noted_in h i k e = record { occupied = h.occupied; slots = set h.slots i (noted (slot_at h i) k e) }

-- slot i freed: all zero, its bit too
abbrev pub closed_in : Slots → ℕ → Slots
closed_in h i = replaced h i 0 empty_slot
