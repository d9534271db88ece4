-- What the slots mean: eight places, each free or taken by a transaction. The rows of a transaction stand the newest first. Assumes nothing.
use Rattle.std.specs.Prelude.{Bool, false, cond, ◌||◌, List, [], ◌∷◌, ℕ, zero, suc, ◌+◌, eqb, ltb, get_or, Option, Some, None}
use Rattle.rules.specs.declared.Effect.{Effect}
use Rattle.rules.specs.Value.{Value}
use Rattle.rules.specs.Effects.{applied, joined, effect_by}
use Rattle.rules.specs.Limits.{most_running}
use Rattle.slot.specs.declared.Slot.{Slot}
use Rattle.slot.specs.declared.Slots.{Slots}
use Rattle.slot.specs.Slot.{effect_at}
use Rattle.slot.specs.Slots.{slot_at, is_occupied}

-- a row of a slot: a key that its transaction wrote, and what all its updates of it come to
pub record Note : Type 0 where
  pub key : ℕ
  pub effect : Effect

-- free, or taken by a transaction: its number, its snapshot, a row for each key that it wrote
pub data Place : Type 0 where
  free : Place
  taken : ℕ → ℕ → List Note → Place

-- the keys of some rows
abbrev pub note_keys : List Note → List ℕ
note_keys [] = []
note_keys (r ∷ rows) = r.key ∷ note_keys rows

-- some row has the key
abbrev pub has_key : ℕ → List Note → Bool
has_key k [] = false
has_key k (r ∷ rows) = eqb r.key k || has_key k rows

-- what the row of a key makes of its value: of one key twice the oldest row counts; without a row it stays
abbrev pub makes : ℕ → List Note → Value → Value
makes k [] old = old
makes k (r ∷ rows) old = cond (has_key k rows) (makes k rows old) (cond (eqb r.key k) (applied r.effect old) old)

-- the effect in a key's row joined by one more
abbrev pub joined_in : ℕ → Effect → List Note → List Note
joined_in k e [] = []
joined_in k e (r ∷ rows) =
    cond (has_key k rows) (r ∷ joined_in k e rows)
    (cond (eqb r.key k) (record { key = k; effect = joined r.effect e } ∷ rows) (r ∷ rows))

-- an update noted: the key's row takes it up, or there is a new row
abbrev pub note : ℕ → Effect → List Note → List Note
note k e rows = cond (has_key k rows) (joined_in k e rows) (record { key = k; effect = e } ∷ rows)

-- the place of a transaction: of several with one number the lowest
abbrev pub place_of : ℕ → List Place → Place
place_of n [] = free
place_of n (free ∷ ps) = place_of n ps
place_of n (taken m s rows ∷ ps) = cond (eqb m n) (taken m s rows) (place_of n ps)

-- a new transaction in the lowest free place
abbrev pub open_in : ℕ → ℕ → List Place → List Place
open_in n s [] = []
open_in n s (free ∷ ps) = taken n s [] ∷ ps
open_in n s (taken m u rows ∷ ps) = taken m u rows ∷ open_in n s ps

-- the place of a transaction replaced
abbrev pub amend : ℕ → Place → List Place → List Place
amend n p [] = []
amend n p (free ∷ ps) = free ∷ amend n p ps
amend n p (taken m s rows ∷ ps) = cond (eqb m n) (p ∷ ps) (taken m s rows ∷ amend n p ps)

-- how many places are taken
abbrev pub occupied : List Place → ℕ
occupied [] = 0
occupied (free ∷ ps) = occupied ps
occupied (taken m s rows ∷ ps) = suc (occupied ps)

-- t is above a running snapshot
abbrev pub holds : ℕ → List Place → Bool
holds t [] = false
holds t (free ∷ ps) = holds t ps
holds t (taken m s rows ∷ ps) = ltb s t || holds t ps

-- the first n rows of three columns
abbrev pub notes_of : List ℕ → List ℕ → List ℕ → ℕ → List Note
notes_of keys values marks zero = []
notes_of keys values marks (suc n) =
    record { key = get_or keys n 0; effect = effect_by (get_or marks n 0) (get_or values n 0) } ∷ notes_of keys values marks n

-- the rows of a slot
abbrev pub slot_rows : Slot → List Note
slot_rows s = notes_of s.keys s.values s.marks s.count

-- what the row that was found makes of a value
abbrev pub made_in : Slot → Option ℕ → Value → Value
made_in s (Some i) old = applied (effect_at s i) old
made_in s None old = old

-- a slot as the place of its transaction
abbrev pub taken_by : Slot → Place
taken_by s = taken s.number s.snapshot (slot_rows s)

-- the slot that was found as the place of its transaction
abbrev pub place_in : Slots → Option ℕ → Place
place_in h (Some i) = taken_by (slot_at h i)
place_in h None = free

-- what slot i means
abbrev pub place_at : Slots → ℕ → Place
place_at h i = cond (is_occupied h i) (taken_by (slot_at h i)) free

-- what c slots from i on mean
abbrev pub places_from : Slots → ℕ → ℕ → List Place
places_from h i zero = []
places_from h i (suc c) = place_at h i ∷ places_from h (i + 1) c

-- what the eight slots mean, slot 0 first
unfoldable pub places_of : Slots → List Place
places_of h = places_from h 0 most_running
