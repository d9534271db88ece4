-- Sections 3 and 6: what the map store answers to each call, and what an accepted call makes of it, on its meaning: low, last, next, the eight places
-- and the versions, the newest first. Bad shape (1) is tested on the lent cells, before there is a meaning. Assumes nothing.
use Rattle.std.specs.Prelude.{Bool, false, cond, ◌||◌, List, [], ◌∷◌, ℕ, ◌+◌, eqb, leb, ltb, length, Some, None}
use Rattle.rules.specs.Limits.{most_running, most_keys, numbers_end}
use Rattle.rules.specs.Value.{Value}
use Rattle.rules.specs.declared.Effect.{Effect}
use Rattle.rules.specs.Effects.{or_zero, applied, is_add, mark_of}
use Rattle.rules.specs.Calls.{Call, Begin, Update, Abort, Commit, time_tests, lookup_tests, checkpoint_tests, with_room}
use Rattle.slot.specs.Places.{Note, Place, free, taken, has_key, makes, note, place_of, open_in, amend, occupied, holds}
use Rattle.versions.specs.declared.Version.{Version}
use Rattle.versions.specs.Versions.{value_at, later, kept_from, list_at}

-- what a map store is taken to mean
pub record MapStore : Type 0 where
  pub low : ℕ
  pub last : ℕ
  pub next : ℕ
  pub places : List Place
  pub versions : List Version

-- low and last 0, next 1, eight free places, no versions
abbrev pub empty_map : MapStore
empty_map =
    record { low = 0; last = 0; next = 1; places = free ∷ free ∷ free ∷ free ∷ free ∷ free ∷ free ∷ free ∷ []; versions = [] }

-- the rows that count: of one key twice the older one
abbrev pub firsts : List Note → List Note
firsts [] = []
firsts (r ∷ rows) = cond (has_key r.key rows) (firsts rows) (r ∷ firsts rows)

-- rule 3.6: of the keys of some rows, one has a version later than s that met their transaction
abbrev pub clash : ℕ → List Note → List Version → Bool
clash s [] vs = false
clash s (r ∷ rows) vs = later s r.key (is_add r.effect) vs || clash s rows vs

-- rule 3.5: what a key's row makes of the value at the snapshot
abbrev pub current : ℕ → ℕ → List Note → List Version → Value
current k s rows vs = makes k rows (value_at k s vs)

-- what a transaction reads in a key
abbrev pub read_at : ℕ → Place → List Version → Value
read_at k free vs = None
read_at k (taken n s rows) vs = current k s rows vs

abbrev pub read_in : ℕ → ℕ → MapStore → Value
read_in n k m = read_at k (place_of n m.places) m.versions

-- the rows that a transaction would commit
abbrev pub rows_at : Place → List Note
rows_at free = []
rows_at (taken n s rows) = firsts rows

-- begin returns the transaction number, the others nothing
abbrev pub gives : Call → MapStore → Value
gives (Begin t) m = Some m.next
gives (Update n k e) m = None
gives (Abort n) m = None
gives (Commit n t) m = None

-- the tests of a time, as in the journal store
abbrev pub time_refusal : ℕ → MapStore → ℕ → ℕ
time_refusal t m others = time_tests t m.low m.last others

-- a transaction that does not run is unknown (2)
abbrev pub abort_refusal : Place → ℕ
abort_refusal free = 2
abort_refusal (taken n s rows) = 0

abbrev pub place_refusal : ℕ → Place → ℕ
place_refusal k free = 2
place_refusal k (taken n s rows) = cond (eqb k 0) 3 0

abbrev pub update_refusal : ℕ → Place → ℕ
update_refusal k free = 2
update_refusal k (taken n s rows) = cond (eqb k 0) 3 (cond (has_key k rows || ltb (length rows) most_keys) 0 8)

abbrev pub commit_refusal : ℕ → MapStore → Place → ℕ
commit_refusal t m free = 2
commit_refusal t m (taken n s rows) = cond (leb t m.last) 10 (cond (clash s (firsts rows) m.versions) 11 0)

-- section 6 but for shape and room, in the order of its tests
abbrev pub map_refusal : Call → MapStore → ℕ
map_refusal (Begin t) m = time_refusal t m (cond (leb most_running (occupied m.places)) 6 (cond (leb numbers_end m.next) 7 0))
map_refusal (Update n k e) m = update_refusal k (place_of n m.places)
map_refusal (Abort n) m = abort_refusal (place_of n m.places)
map_refusal (Commit n t) m = commit_refusal t m (place_of n m.places)

abbrev pub read_refusal : ℕ → ℕ → MapStore → ℕ
read_refusal n k m = place_refusal k (place_of n m.places)

abbrev pub lookup_refusal : ℕ → ℕ → MapStore → ℕ
lookup_refusal k t m = lookup_tests k t m.low m.last

abbrev pub list_refusal : ℕ → MapStore → ℕ
list_refusal t m = time_refusal t m 0

abbrev pub checkpoint_refusal : ℕ → MapStore → ℕ
checkpoint_refusal t m = checkpoint_tests t m.low m.last (holds t m.places)

-- the number that a call gets where so many version rows are lent: a commit alone needs room (12), a row for each key
abbrev pub map_answer : ℕ → Call → MapStore → ℕ
map_answer room (Begin t) m = map_refusal (Begin t) m
map_answer room (Update n k e) m = map_refusal (Update n k e) m
map_answer room (Abort n) m = map_refusal (Abort n) m
map_answer room (Commit n t) m =
    with_room (map_refusal (Commit n t) m) (length m.versions + length (rows_at (place_of n m.places))) room

-- the number that list gets where so many rows are lent
abbrev pub list_answer : ℕ → ℕ → MapStore → ℕ
list_answer room t m = with_room (list_refusal t m) (length (list_at m.versions t)) room

-- an update noted in a transaction's place
abbrev pub updated_place : ℕ → Effect → Place → Place
updated_place k e free = free
updated_place k e (taken n s rows) = taken n s (note k e rows)

-- the newest committed value of a key: that at last
abbrev pub newest_value : MapStore → ℕ → Value
newest_value m k = value_at k m.last m.versions

-- rule 3.8: the version of a row at the commit time t: its effect on the newest committed value, marked if it only adds
abbrev pub version_of : (ℕ → Value) → ℕ → Note → Version
version_of newest t r = record { key = r.key; time = t; value = or_zero (applied r.effect (newest r.key)); mark = mark_of r.effect }

-- a version for each row
abbrev pub stamp : (ℕ → Value) → ℕ → List Note → List Version → List Version
stamp newest t [] vs = vs
stamp newest t (r ∷ rows) vs = version_of newest t r ∷ stamp newest t rows vs

-- what an accepted call makes of the store
abbrev pub map_after : Call → MapStore → MapStore
map_after (Begin t) m =
    record { low = m.low; last = m.last; next = m.next + 1; places = open_in m.next t m.places; versions = m.versions }
map_after (Update n k e) m =
    record {
      low = m.low;
      last = m.last;
      next = m.next;
      places = amend n (updated_place k e (place_of n m.places)) m.places;
      versions = m.versions;
    }
map_after (Abort n) m = record { low = m.low; last = m.last; next = m.next; places = amend n free m.places; versions = m.versions }
map_after (Commit n t) m =
    record {
      low = m.low;
      last = t;
      next = m.next;
      places = amend n free m.places;
      versions = stamp (newest_value m) t (rows_at (place_of n m.places)) m.versions;
    }

-- rule 3.10: low becomes T, and the versions that stay are kept
abbrev pub checkpointed : ℕ → MapStore → MapStore
checkpointed T m = record { low = T; last = m.last; next = m.next; places = m.places; versions = kept_from T m.versions }
