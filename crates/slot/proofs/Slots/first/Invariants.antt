-- `Slots::first` meets its contract. The loop's invariant: the slots that are left, from i on, complete to the answer, and the rows of those that
-- were passed are in order where their count is.
use Rattle.std.proofs.Common.{Bool, true, ◌≡◌, ℕ, ◌-◌, ◌<◌, ◌≤◌}
use Rattle.slot.specs.declared.Slot.{Slot}
use Rattle.slot.specs.Slots.{slot_at, is_occupied, first_from, first_slot}
use Rattle.slot.specs.Formed.{Rowed}
use Rattle.slot.proofs.Slots.first.Given as goal

abbrev pub invariant-loop-i : goal.invariant-loop-i
invariant-loop-i g l =
    ((p : Slot → Bool) → ((s : Slot) (b : Bool) → goal.F-post g l.test s b → b ≡ p s) → first_from p l.self l.i (8 - l.i) ≡ first_slot p l.self)
    × ((j : ℕ) → j < l.i → is_occupied l.self j ≡ true → (slot_at l.self j).count ≤ 32 → Rowed (slot_at l.self j))
