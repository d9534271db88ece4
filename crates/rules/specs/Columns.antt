-- Rows as they are lent: a column of keys and one of values. Assumes nothing.
use Rattle.std.specs.Prelude.{◌≡◌, ℕ, ◌≤◌, List, [], ◌∷◌, ◌++◌, length, take, drop}
use Rattle.rules.specs.Values.{Row}
use Rattle.rules.specs.Lists.{row_keys}

-- the rows of two columns
abbrev pub rows_of : List ℕ → List ℕ → List Row
rows_of [] values = []
rows_of (k ∷ keys) [] = []
rows_of (k ∷ keys) (v ∷ values) = record { key = k; value = v } ∷ rows_of keys values

-- the first n rows of two columns
abbrev pub first_rows : ℕ → List ℕ → List ℕ → List Row
first_rows n keys values = rows_of (take n keys) (take n values)

-- the values of some rows
abbrev pub row_values : List Row → List ℕ
row_values [] = []
row_values (row ∷ rows) = row.value ∷ row_values rows

-- so many rows stand in both columns, of a base or of a list
pub record Rows (keys values : List ℕ) (rows : ℕ) : Type 0 where
  pub in_keys : rows ≤ length keys
  pub in_values : rows ≤ length values

-- two columns that start with some rows, and are as they were behind them
pub record Filled (rows : List Row) (keys values keys' values' : List ℕ) : Type 0 where
  pub keys_column : keys' ≡ row_keys rows ++ drop (length rows) keys
  pub values_column : values' ≡ row_values rows ++ drop (length rows) values
