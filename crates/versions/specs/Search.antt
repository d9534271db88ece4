-- How a search passes rows that do not count. Assumes nothing.
use Rattle.std.specs.Prelude.{◌≡◌, Bool, List, ℕ, ◌≤◌, ◌<◌, get_or}
use Rattle.std.specs.List.{list_any}

-- some cell passes the test
abbrev pub some : (ℕ → Bool) → List ℕ → Bool
some = list_any

-- no row from m up to r, of n, has k
pub record Passed (k : ℕ) (ks : List ℕ) (m n r : ℕ) : Type 0 where
  pub from : m ≤ r
  pub within : r ≤ n
  pub none : (j : ℕ) → m ≤ j → j < r → get_or ks j 0 ≡ k → ⊥

-- the first n times are not later than s
abbrev pub Early : ℕ → List ℕ → ℕ → Type 0
Early s ts n = (j : ℕ) → j < n → get_or ts j 0 ≤ s

-- the first of n times that is later than s, or how many there are
pub record FirstLate (s : ℕ) (ts : List ℕ) (n r : ℕ) : Type 0 where
  pub within : r ≤ n
  pub before : Early s ts r
  pub behind : r < n → s < get_or ts r 0
