-- The rows that are lent to a list. Assumes nothing.
use Rattle.std.specs.Prelude.{ℕ, ◌+◌, ◌%◌, ◌^◌, cond, List, ◌==◌, slice_index}
use Rattle.std.specs.Prelude.{Some}
use Rattle.answer.specs.declared.shown.Answer.{Answer}
use Rattle.answer.specs.Shown.{shown}

-- how many there are
abbrev pub most_lent : ℕ
most_lent = 64

-- the place of a row, counted from 1; behind the last row the first comes again
abbrev pub place_of : ℕ → ℕ
place_of row = (row + 63) % 2 ^ 64 % most_lent

-- what a list is answered, or the key and the value of a row after it
abbrev pub told : Answer → List ℕ → List ℕ → ℕ → Answer
told a keys values row = cond (row == 0) a (shown (slice_index keys (place_of row)) (Some (slice_index values (place_of row))))
