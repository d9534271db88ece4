-- Heads whose fields hold their own places. Assumes nothing.
use Rattle.std.specs.Prelude.{List, [], ◌∷◌, ℕ, zero, suc, ◌+◌, ◌*◌, ◌%◌}
use Rattle.rules.specs.Limits.{most_running, most_keys}
use Rattle.journal_store.specs.declared.Head.{Head}
use Rattle.slot.specs.declared.Slot.{Slot}
use Rattle.map_store.specs.declared.MapHead.{MapHead}

-- the fields of a journal head, counted
abbrev pub journal_sample : Head
journal_sample = record { low = 1; floor = 2; base = record { rows = 3 }; journal = record { used = 4 } }

-- so many cells, the first made of a number, the next of the one after it
unfoldable pub cells_from : {A : Type 0} → (ℕ → A) → ℕ → ℕ → List A
cells_from cell n zero = []
cells_from cell n (suc count) = cell n ∷ cells_from cell (n + 1) count

-- so many numbers from the first on
abbrev pub counted_from : ℕ → ℕ → List ℕ
counted_from = cells_from (λ n. n)

-- the same as single bytes, modulo 256
abbrev pub marked_from : ℕ → ℕ → List ℕ
marked_from = cells_from (λ n. n % 256)

-- the fields of a slot, counted from n on
abbrev pub slot_from : ℕ → Slot
slot_from n =
    record {
      number = n;
      snapshot = n + 1;
      count = n + 2;
      keys = counted_from (n + 3) most_keys;
      values = counted_from (n + 3 + most_keys) most_keys;
      marks = marked_from (n + 3 + 2 * most_keys) most_keys;
    }

-- so many slots, counted from n on
unfoldable pub slots_from : ℕ → ℕ → List Slot
slots_from n zero = []
slots_from n (suc count) = slot_from n ∷ slots_from (n + (3 + 3 * most_keys)) count

-- the fields of a map head, counted through all slots
abbrev pub map_sample : MapHead
map_sample = record { low = 1; last = 2; next = 3; used = 4; slots = record { occupied = 5; slots = slots_from 6 most_running } }
