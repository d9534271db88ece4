-- Laws of columns and their rows. Assumes nothing.
use Rattle.std.specs.Prelude.{◌≡◌, ℕ, List, [], ◌∷◌, ◌++◌, length, refl}
use Rattle.std.proofs.Common.{take_at}
use Rattle.rules.specs.Values.{Row}
use Rattle.rules.specs.Lists.{row_keys}
use Rattle.rules.specs.Columns.{rows_of, first_rows, row_values}

pub length_keys : (rows : List Row) → length (row_keys rows) ≡ length rows
length_keys [] = refl
length_keys (row ∷ rows) = rw (length_keys rows)

pub length_values : (rows : List Row) → length (row_values rows) ≡ length rows
length_values [] = refl
length_values (row ∷ rows) = rw (length_values rows)

-- the columns of some rows have these rows
pub columns_rows : (rows : List Row) → rows_of (row_keys rows) (row_values rows) ≡ rows
columns_rows [] = refl
columns_rows (row ∷ rows) = rw (columns_rows rows)

-- and so they have where they stand at the front of longer columns
pub front_rows : (rows : List Row) (keys values : List ℕ) → first_rows (length rows) (row_keys rows ++ keys) (row_values rows ++ values) ≡ rows
front_rows rows keys values =
    rw (take_at (row_keys rows) keys (length rows) (length_keys rows), take_at (row_values rows) values (length rows) (length_values rows))
    (columns_rows rows)

-- one row more in each column
pub keys_more : (rows more : List Row) → row_keys (rows ++ more) ≡ row_keys rows ++ row_keys more
keys_more [] more = refl
keys_more (row ∷ rows) more = rw (keys_more rows more)
