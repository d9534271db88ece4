-- A column of keys: the first row that has a key. Assumes nothing.
use Rattle.std.specs.Prelude.{List, ℕ, Option, ◌==◌}
use Rattle.std.specs.List.{position_from}

-- the first row of a list that has the key, its rows numbered from i
abbrev pub first_from : ℕ → ℕ → List ℕ → Option ℕ
first_from i k xs = position_from (λ x. x == k) i xs

-- the first row of a column that has the key
abbrev pub first_row : ℕ → List ℕ → Option ℕ
first_row k xs = first_from 0 k xs
