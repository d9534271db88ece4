-- Columns of three rows, computed. Assumes nothing.
use Rattle.std.specs.Prelude.{[], ◌∷◌, ◌≡◌, refl, take, Some, None}
use Rattle.column.specs.Column.{first_row}

-- of two rows with the key the first
the_first : first_row 7 (5 ∷ 7 ∷ 7 ∷ []) ≡ Some 1
the_first = refl

-- a count past the column's end takes all its rows
past_the_end : first_row 7 (take 9 (5 ∷ 6 ∷ 7 ∷ [])) ≡ Some 2
past_the_end = refl

-- a row at the count is not looked at
at_the_count : first_row 7 (take 2 (5 ∷ 6 ∷ 7 ∷ [])) ≡ None
at_the_count = refl
