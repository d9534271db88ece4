-- No second answer satisfies a contract. Assumes nothing.
use Rattle.std.specs.Prelude.{Bool, List, ◌++◌, ◌≡◌, ℕ, take, drop, Option}
use Rattle.std.proofs.Common.{sym, ◌∙◌}
use Rattle.rules.specs.Lists.{among}
use Rattle.column.specs.Column.{first_row}

module _ (column : List ℕ) (count : ℕ) where
  pub find_unique : (key : ℕ) {r s : Option ℕ} → r ≡ first_row key (take count column) → s ≡ first_row key (take count column) → r ≡ s
  find_unique key p q = p ∙ sym q

  pub is_in_unique : (number : ℕ) {r s : Bool} → r ≡ among number (take count column) → s ≡ among number (take count column) → r ≡ s
  is_in_unique number p q = p ∙ sym q

pub copy_unique : (from : List ℕ) (count : ℕ) (to : List ℕ) {a b : List ℕ} → a ≡ take count from ++ drop count to → b ≡ take count from ++ drop count to → a ≡ b
copy_unique from count to p q = p ∙ sym q
