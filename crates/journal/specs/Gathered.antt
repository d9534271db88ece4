-- Columns that a pass over the records fills: the running transactions, those that committed later than a time, and the distinct keys that one wrote.
-- A row more is the next behind those filled, so that a column has the oldest first, and behind them what stood there. Assumes nothing.
use Rattle.std.specs.Prelude.{◌≡◌, cond, List, [], ◌∷◌, ◌++◌, reverse, ℕ, ◌≤◌, length, drop}
use Rattle.rules.specs.declared.Record.{Record}
use Rattle.rules.specs.Checkpoints.{late}

-- the transactions that committed later than s, once for each such commit, the newest first
abbrev pub lates : ℕ → List Record → List ℕ
lates s [] = []
lates s (r ∷ rs) = cond (late s r) (r.transaction ∷ lates s rs) (lates s rs)

-- a column with some numbers, the newest last, in place of its first rows; they are no more than the records passed
pub record Gathered (xs : List ℕ) (passed count : ℕ) (entry exit : List ℕ) : Type 0 where
  pub few : count ≤ passed
  pub many : count ≡ length xs
  pub cells : exit ≡ reverse xs ++ drop count entry
