-- What the parts of a commit make of the head and the columns. Assumes nothing.
use Rattle.std.specs.Prelude.{◌≡◌, Bool, cond, not, List, ℕ, ◌+◌, length, get_or}
use Rattle.rules.specs.Value.{Value}
use Rattle.slot.specs.declared.Slot.{Slot}
use Rattle.slot.specs.Slot.{effect_at}
use Rattle.slot.specs.Slots.{slot_of}
use Rattle.slot.specs.Places.{Note, has_key, notes_of}
use Rattle.versions.specs.Versions.{Columns, versions_of, value_at}
use Rattle.map_store.specs.declared.MapHead.{MapHead}
use Rattle.map_store.specs.Meaning.{newest_value}
use Rattle.map_store.specs.Shape.{meaning}
use Rattle.map_store.specs.Heads.{committed_head, rows_in, stamped}

-- the first i rows of a slot
abbrev pub rows_to : Slot → ℕ → List Note
rows_to s i = notes_of s.keys s.values s.marks i

-- row i of a slot
abbrev pub row_at : Slot → ℕ → Note
row_at s i = record { key = get_or s.keys i 0; effect = effect_at s i }

-- row i is the first that has its key
abbrev pub is_first : Slot → ℕ → Bool
is_first s i = not (has_key (get_or s.keys i 0) (rows_to s i))

-- the value of a key at last, by the used rows
abbrev pub newest_in : ℕ → ℕ → Columns → ℕ → Value
newest_in last used cs k = value_at k last (versions_of used cs)

-- the columns with some rows written behind their used ones at one commit time, and how many are used then
pub record Stamped (newest : ℕ → Value) (t used : ℕ) (rows : List Note) (cs cs' : Columns) (r : ℕ) : Type 0 where
  pub count : r ≡ used + length rows
  pub cells : cs' ≡ stamped newest used t rows cs

-- what a commit that is accepted or not makes of the head and the columns
pub record Put (n t : ℕ) (h : MapHead) (cs : Columns) (accepted : Bool) (head : MapHead) (cs' : Columns) : Type 0 where
  pub headed : head ≡ cond accepted (committed_head t (slot_of h.slots n) h) h
  pub cells : cs' ≡ cond accepted (stamped (newest_value (meaning h cs)) h.used t (rows_in h.slots (slot_of h.slots n)) cs) cs
