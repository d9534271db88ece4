-- The map store as it is lent: its shape, its room, and what it means. Assumes nothing.
use Rattle.std.specs.Prelude.{◌≡◌, Bool, not, ◌&&◌, ℕ, ◌≤◌, min, eqb, leb, length}
use Rattle.rules.specs.Limits.{most_versions}
use Rattle.slot.specs.Slots.{empty_slots, slots_shaped}
use Rattle.slot.specs.Formed.{Formed}
use Rattle.slot.specs.Places.{places_of}
use Rattle.versions.specs.Versions.{Columns, versions_of}
use Rattle.map_store.specs.declared.MapHead.{MapHead}
use Rattle.map_store.specs.Meaning.{MapStore}

-- low and last 0, next 1, no versions, all slots free
abbrev pub empty_head : MapHead
empty_head = record { low = 0; last = 0; next = 1; used = 0; slots = empty_slots }

-- how many rows each column has
pub record Lengths : Type 0 where
  pub keys : ℕ
  pub times : ℕ
  pub values : ℕ
  pub marks : ℕ

-- the lengths of the lent columns
abbrev pub lengths : Columns → Lengths
lengths cs =
    record { keys = length cs.keys; times = length cs.times; values = length cs.values; marks = length cs.marks }

-- section 6, number 1: used versions within limit and room, columns of one length, next not 0, no occupied slot with more than 32 keys
abbrev pub is_shaped : MapHead → Lengths → Bool
is_shaped h l =
    leb h.used most_versions
    && (leb h.used l.keys
    && (eqb l.keys l.times && (eqb l.keys l.values && (eqb l.keys l.marks && (not (eqb h.next 0) && slots_shaped h.slots)))))

-- how many versions fit into columns of such a length
abbrev pub room_of : ℕ → ℕ
room_of rows = min most_versions rows

-- what the lent cells mean
abbrev pub meaning : MapHead → Columns → MapStore
meaning h cs =
    record { low = h.low; last = h.last; next = h.next; places = places_of h.slots; versions = versions_of h.used cs }

-- what a good shape says
pub record Shaped (h : MapHead) (l : Lengths) : Type 0 where
  pub limit : h.used ≤ most_versions
  pub rows : h.used ≤ l.keys
  pub times : l.keys ≡ l.times
  pub values : l.keys ≡ l.values
  pub marks : l.keys ≡ l.marks
  pub numbered : h.next ≡ 0 → ⊥
  pub formed : Formed h.slots
