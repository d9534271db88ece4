-- What the calls make of the lent columns. Assumes nothing.
use Rattle.std.specs.Prelude.{◌≡◌, Bool, false, cond, List, [], ◌∷◌, ◌++◌, ℕ, ◌-◌, ◌≤◌, length, get_or, take, drop, set, replicate}
use Rattle.versions.specs.declared.Version.{Version}
use Rattle.versions.specs.Versions.{Columns, versions_of, kept_from}

-- so many rows are lent in each column
pub record Spans (rows : ℕ) (cs : Columns) : Type 0 where
  pub keys : rows ≤ length cs.keys
  pub times : rows ≤ length cs.times
  pub values : rows ≤ length cs.values
  pub marks : rows ≤ length cs.marks

-- the second columns are as long as the first
pub record Long (cs cs' : Columns) : Type 0 where
  pub keys : length cs'.keys ≡ length cs.keys
  pub times : length cs'.times ≡ length cs.times
  pub values : length cs'.values ≡ length cs.values
  pub marks : length cs'.marks ≡ length cs.marks

-- each column changed in one way, which goes by the field of a version that stands there
abbrev pub each : ((Version → ℕ) → List ℕ → List ℕ) → Columns → Columns
each change cs =
    record {
      keys = change (λ v. v.key) cs.keys;
      times = change (λ v. v.time) cs.times;
      values = change (λ v. v.value) cs.values;
      marks = change (λ v. v.mark) cs.marks;
    }

-- a version in row n, and all else as it was
abbrev pub with_version : ℕ → Version → Columns → Columns
with_version n v cs = each (λ field cells. set cells n (field v)) cs

-- the first n rows
abbrev pub front : ℕ → Columns → Columns
front n cs = each (λ field cells. take n cells) cs

-- one field of the versions, in the order of their rows
abbrev pub column : (Version → ℕ) → List Version → List ℕ
column field [] = []
column field (v ∷ older) = column field older ++ (field v ∷ [])

-- the versions whose rows are picked
abbrev pub picked : List Bool → List Version → List Version
picked picks [] = []
picked picks (v ∷ older) = cond (get_or picks (length older) false) (v ∷ picked picks older) (picked picks older)

-- a column whose first rows are written with versions
abbrev pub over : (Version → ℕ) → List Version → List ℕ → List ℕ
over field vs cells = column field vs ++ drop (length vs) cells

-- the columns after versions moved up, n of them
pub record Moved (rows : List Version) (cs cs' : Columns) (n : ℕ) : Type 0 where
  pub count : n ≡ length rows
  pub cells : cs' ≡ each (λ field. over field rows) cs

-- a column whose rows from m up to n are zero
abbrev pub zeroed : ℕ → ℕ → List ℕ → List ℕ
zeroed m n cells = take m cells ++ (replicate (n - m) 0 ++ drop n cells)

-- the columns with these rows zero
abbrev pub cleared : ℕ → ℕ → Columns → Columns
cleared m n cs = each (λ field. zeroed m n) cs

-- a column of n used rows after a checkpoint: what is kept, then zeros where rows are freed, then what stood behind the used rows
abbrev pub thinned_column : (Version → ℕ) → List Version → ℕ → List ℕ → List ℕ
thinned_column field kept n cells = column field kept ++ (replicate (n - length kept) 0 ++ drop n cells)

-- the columns of n used rows after a checkpoint at T
abbrev pub thinned : ℕ → ℕ → Columns → Columns
thinned T n cs = each (λ field. thinned_column field (kept_from T (versions_of n cs)) n) cs

-- these, and how many versions they have
pub record Kept (T n : ℕ) (cs cs' : Columns) (r : ℕ) : Type 0 where
  pub count : r ≡ length (kept_from T (versions_of n cs))
  pub cells : cs' ≡ thinned T n cs
