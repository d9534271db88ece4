-- Numbers marked at the place of their low digits, so that whether a number is among them is told at once. Assumes nothing.
use Rattle.std.specs.Prelude.{◌≡◌, Bool, true, List, [], ◌∷◌, ◌++◌, ℕ, ◌%◌, eqb, length, get_or}
use Rattle.rules.specs.Lists.{among}

-- a number but 0 is one of some numbers exactly if its place has its mark
abbrev pub Told : List ℕ → List ℕ → Type 0
Told numbers marks = (m : ℕ) → (m ≡ 0 → ⊥) → eqb (get_or marks (m % 1024) 0) m ≡ among m numbers

-- the marks of some numbers; they tell where each number has a place of its own
pub record Marks (numbers marks : List ℕ) (alone : Bool) : Type 0 where
  pub long : length marks ≡ 1024
  pub told : alone ≡ true → Told numbers marks

-- one number more
pub record MarkSet (marks : List ℕ) (n : ℕ) (own : Bool) (marks' : List ℕ) : Type 0 where
  pub long : length marks' ≡ length marks
  pub told : own ≡ true → (numbers : List ℕ) → Told numbers marks → Told (numbers ++ (n ∷ [])) marks'
