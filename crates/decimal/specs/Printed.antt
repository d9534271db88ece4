-- What `print` promises: the next place, and every byte of the buffer. Assumes nothing.
use Rattle.std.specs.Prelude.{◌≡◌, List, ◌++◌, ℕ, ◌+◌, length, take, drop}
use Rattle.decimal.specs.Digits.{digits}

-- n's digits stand in the buffer from `at` on, the answer r is the place behind them, and every other byte is as it was
pub record Printed (entry : List ℕ) (at n r : ℕ) (exit : List ℕ) : Type 0 where
  pub next : r ≡ at + length (digits n)
  pub bytes : exit ≡ take at entry ++ (digits n ++ drop (at + length (digits n)) entry)
