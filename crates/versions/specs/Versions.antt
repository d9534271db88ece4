-- Rules 3.6, 3.8 and 3.10 on the versions of the map store, the newest row first: the newest version of a key at or before a time, its value,
-- a version later than a snapshot, what a checkpoint keeps, and the list at a time. Assumes nothing.
use Rattle.std.specs.Prelude.{Bool, true, false, cond, not, ◌&&◌, ◌||◌, List, [], ◌∷◌, ℕ, zero, suc, eqb, leb, ltb, length, get_or, Option, Some, None}
use Rattle.rules.specs.Value.{Value}
use Rattle.rules.specs.Values.{Row}
use Rattle.rules.specs.Lists.{listed}
use Rattle.versions.specs.declared.Version.{Version}

-- the lent columns: row i of each belongs to one version
pub record Columns : Type 0 where
  pub keys : List ℕ
  pub times : List ℕ
  pub values : List ℕ
  pub marks : List ℕ

-- the columns as they are lent, side by side
abbrev pub columns : List ℕ → List ℕ → List ℕ → List ℕ → Columns
columns keys times values marks = record { keys = keys; times = times; values = values; marks = marks }

-- columns without rows
abbrev pub no_columns : Columns
no_columns = columns [] [] [] []

-- columns with these keys and times: a search reads no others, so that these may be any
abbrev pub keyed : List ℕ → List ℕ → Columns → Columns
keyed keys times others = record { keys = keys; times = times; values = others.values; marks = others.marks }

-- the version in row i
abbrev pub version_at : ℕ → Columns → Version
version_at i cs =
    record { key = get_or cs.keys i 0; time = get_or cs.times i 0; value = get_or cs.values i 0; mark = get_or cs.marks i 0 }

-- the first n rows of the columns, the last one first
abbrev pub versions_of : ℕ → Columns → List Version
versions_of zero cs = []
versions_of (suc n) cs = version_at n cs ∷ versions_of n cs

-- what a search finds: nothing, or a version's row, time and value
pub data Best : Type 0 where
  nothing : Best
  at : ℕ → ℕ → ℕ → Best

-- a version at time u is better than what was found in the rows before it: the earliest row among equals stays
abbrev pub better : Best → ℕ → Bool
better nothing u = true
better (at i t v) u = ltb t u

-- one row more, row i: it is found if it has the key, is at or before t, and is better
abbrev pub newest_step : ℕ → ℕ → Version → ℕ → Best → Best
newest_step k t v i b = cond (eqb v.key k && (leb v.time t && better b v.time)) (at i v.time v.value) b

-- the newest version of k at or before t: the greatest time, the earliest row among equals
abbrev pub newest : ℕ → ℕ → List Version → Best
newest k t [] = nothing
newest k t (v ∷ older) = newest_step k t v (length older) (newest k t older)

-- the row of what was found
abbrev pub row_of : Best → Option ℕ
row_of nothing = None
row_of (at i t v) = Some i

-- the value of what was found
abbrev pub shown : Best → Value
shown nothing = None
shown (at i t v) = Some v

-- the value of k at t
abbrev pub value_at : ℕ → ℕ → List Version → Value
value_at k t vs = shown (newest k t vs)

-- a version is marked: adds alone made it
abbrev pub is_marked : Version → Bool
is_marked v = not (eqb v.mark 0)

-- rule 3.6: there is a version of k later than s that met a transaction; if that one only added to k, marked versions do not count
abbrev pub later : ℕ → ℕ → Bool → List Version → Bool
later s k adds [] = false
later s k adds (v ∷ older) = (eqb v.key k && (ltb s v.time && not (adds && is_marked v))) || later s k adds older

-- row i is the one that was found
abbrev pub is_row : ℕ → Best → Bool
is_row i nothing = false
is_row i (at j t v) = eqb i j

-- a checkpoint at T keeps row i of the whole: a version after T, or its key's newest at or before T
abbrev pub is_kept : ℕ → List Version → ℕ → Version → Bool
is_kept T whole i v = ltb T v.time || is_row i (newest v.key T whole)

-- the versions of the whole that a checkpoint at T keeps, in order
abbrev pub thin : ℕ → List Version → List Version → List Version
thin T whole [] = []
thin T whole (v ∷ older) = cond (is_kept T whole (length older) v) (v ∷ thin T whole older) (thin T whole older)

-- what a checkpoint at T keeps
abbrev pub kept_from : ℕ → List Version → List Version
kept_from T vs = thin T vs vs

-- the keys of the versions
abbrev pub keys_of : List Version → List ℕ
keys_of [] = []
keys_of (v ∷ older) = v.key ∷ keys_of older

-- the list at t: every key from 1 up that is not absent, once, rising, with its value
abbrev pub list_at : List Version → ℕ → List Row
list_at vs t = listed (λ k. value_at k t vs) (keys_of vs)
