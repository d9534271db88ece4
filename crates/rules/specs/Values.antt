-- Rules 3.4 and 3.5 on the records of a journal, the newest first: the value of a key at a time, and a read. Assumes nothing.
use Rattle.std.specs.Prelude.{ℕ, cond, ◌&&◌, List, [], ◌∷◌, ◌==◌, nat_le, Some, None}
use Rattle.rules.specs.declared.Record.{Record}
use Rattle.rules.specs.Value.{Value}
use Rattle.rules.specs.Kinds.{is_commit}
use Rattle.rules.specs.Effects.{effects}
use Rattle.rules.specs.Transactions.{of}

-- a row of a base or of a list
pub record Row : Type 0 where
  pub key : ℕ
  pub value : ℕ

-- k's row, or absent: the first of several rows for a key counts
abbrev pub row_value : List Row → ℕ → Value
row_value [] k = None
row_value (row ∷ rows) k = cond (row.key == k) (Some row.value) (row_value rows k)

-- a commit record with time at most t applies its transaction's effects on k recorded before it
abbrev pub settle : ℕ → ℕ → Record → List Record → Value → Value
settle k t r older v = cond (is_commit r && nat_le r.time t) (effects k (of r.transaction older) v) v

-- the value of k at t; start is the value of its base row
abbrev pub value : Value → ℕ → ℕ → List Record → Value
value start k t [] = start
value start k t (r ∷ older) = settle k t r older (value start k t older)

-- the value of k at t, over a base
abbrev pub value_at : List Row → List Record → ℕ → ℕ → Value
value_at base rs t k = value (row_value base k) k t rs

-- a read of k in transaction n with snapshot s: the value at s, then its own effects on k in order
abbrev pub read_in : List Row → List Record → ℕ → ℕ → ℕ → Value
read_in base rs n s k = effects k (of n rs) (value_at base rs s k)
