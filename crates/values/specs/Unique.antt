-- No second answer satisfies the contract of a public function of this crate, for any rows and records. Assumes nothing.
use Rattle.std.specs.Prelude.{◌≡◌, List, ℕ}
use Rattle.std.proofs.Common.{sym, ap, ◌∙◌}
use Rattle.rules.specs.declared.Record.{Record}
use Rattle.rules.specs.Value.{Value}
use Rattle.rules.specs.Values.{Row, row_value, value_at, value, read_in}
use Rattle.rules.specs.Columns.{first_rows}
use Rattle.values.specs.declared.base.BaseRows.{BaseRows}
use Rattle.values.specs.Base.{base_rows}

-- BaseRows::new: both columns and the count, and so the rows
pub new_unique : (keys values : List ℕ) (count : ℕ) (a b : BaseRows)
    → (a.keys.now ≡ keys) × (a.values.now ≡ values) × (a.count ≡ count) → (b.keys.now ≡ keys) × (b.values.now ≡ values) × (b.count ≡ count)
    → ((a.keys.now ≡ b.keys.now) × (a.values.now ≡ b.values.now) × (a.count ≡ b.count)) × (base_rows a ≡ base_rows b)
new_unique keys values count a b (p, q, r) (s, t, u) =
    let x = p ∙ sym s in
    let y = q ∙ sym t in
    let z = r ∙ sym u in (
      (x, y, z),
      ap (λ (n : ℕ). first_rows n a.keys.now a.values.now) z
          ∙ ap (λ (k : List ℕ). first_rows b.count k a.values.now) x
          ∙ ap (first_rows b.count b.keys.now) y,
    )

module _ (rs : List Record) where
  pub value_unique : (start : Value) (k t : ℕ) {v w : Value} → v ≡ value start k t rs → w ≡ value start k t rs → v ≡ w
  value_unique start k t p q = p ∙ sym q

module _ (base : List Row) where
  pub base_value_unique : (k : ℕ) {v w : Value} → v ≡ row_value base k → w ≡ row_value base k → v ≡ w
  base_value_unique k p q = p ∙ sym q

  module _ (rs : List Record) where
    pub value_at_unique : (k t : ℕ) {v w : Value} → v ≡ value_at base rs t k → w ≡ value_at base rs t k → v ≡ w
    value_at_unique k t p q = p ∙ sym q

    pub read_in_unique : (n snapshot k : ℕ) {v w : Value} → v ≡ read_in base rs n snapshot k → w ≡ read_in base rs n snapshot k → v ≡ w
    read_in_unique n snapshot k p q = p ∙ sym q
