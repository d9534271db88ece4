-- No second answer satisfies the contract of a public function. Assumes nothing.
use Rattle.std.specs.Prelude.{◌≡◌, Bool, List, ℕ}
use Rattle.std.proofs.Common.{sym, ◌∙◌}
use Rattle.rules.specs.declared.Record.{Record}
use Rattle.rules.specs.Transactions.{may_write}
use Rattle.rules.specs.Conflicts.{conflict}

module _ (rs : List Record) where
  pub may_write_unique : (n k : ℕ) (a b : Bool) → a ≡ may_write n k rs → b ≡ may_write n k rs → a ≡ b
  may_write_unique n k a b p q = p ∙ sym q

  pub conflict_unique : (n snapshot : ℕ) (a b : Bool) → a ≡ conflict n snapshot rs → b ≡ conflict n snapshot rs → a ≡ b
  conflict_unique n snapshot a b p q = p ∙ sym q
