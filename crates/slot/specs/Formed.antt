-- What a shape test that passes tells of the eight slots. Assumes nothing.
use Rattle.std.specs.Prelude.{true, ◌≡◌, ℕ, ◌<◌, ◌≤◌, length}
use Rattle.rules.specs.Limits.{most_running, most_keys}
use Rattle.slot.specs.declared.Slot.{Slot}
use Rattle.slot.specs.declared.Slots.{Slots}
use Rattle.slot.specs.Slots.{slot_at, is_occupied}

-- all arrays of a slot have all their rows, and no more are in use
pub record Rowed (s : Slot) : Type 0 where
  pub keys : length s.keys ≡ most_keys
  pub values : length s.values ≡ most_keys
  pub marks : length s.marks ≡ most_keys
  pub count : s.count ≤ most_keys

-- the number of the occupied slots is a byte, there are eight slots, and the rows of the occupied ones are in order
pub record Formed (h : Slots) : Type 0 where
  pub byte : h.occupied < 256
  pub eight : length h.slots ≡ most_running
  pub rowed : (i : ℕ) → is_occupied h i ≡ true → Rowed (slot_at h i)
