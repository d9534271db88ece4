-- No second answer, and no second contents of the lent columns, satisfies a contract. Assumes nothing.
use Rattle.std.specs.Prelude.{◌≡◌, Bool, List, [], ℕ, ltb, Option}
use Rattle.std.proofs.Common.{sym, ◌∙◌, arith, ltb-true, ltb-false}
use Rattle.rules.specs.Value.{Value}
use Rattle.rules.specs.declared.Effect.{Effect}
use Rattle.rules.specs.Effects.{applied}
use Rattle.rules.specs.Bools.{split}
use Rattle.versions.specs.declared.Version.{Version}
use Rattle.versions.specs.declared.stamps.Stamps.{Stamps}
use Rattle.versions.specs.Versions.{Columns, columns, no_columns, keyed, versions_of, newest, row_of, value_at, later}
use Rattle.versions.specs.Columns.{with_version}
use Rattle.versions.specs.Search.{FirstLate}

module _ (n : ℕ) (ks ts : List ℕ) where
  pub newest_row_unique : (k t : ℕ) {r s : Option ℕ} → ((cs : Columns) → r ≡ row_of (newest k t (versions_of n (keyed ks ts cs))))
      → ((cs : Columns) → s ≡ row_of (newest k t (versions_of n (keyed ks ts cs)))) → r ≡ s
  newest_row_unique k t p q = p no_columns ∙ sym (q no_columns)

  pub is_later_unique : (ms : List ℕ) (s k : ℕ) (adds : Bool) {a b : Bool}
      → ((vs : List ℕ) → a ≡ later s k adds (versions_of n (columns ks ts vs ms)))
      → ((vs : List ℕ) → b ≡ later s k adds (versions_of n (columns ks ts vs ms))) → a ≡ b
  is_later_unique ms s k adds p q = p [] ∙ sym (q [])

  pub first_late_unique : (s : ℕ) {r q : ℕ} → FirstLate s ts n r → FirstLate s ts n q → r ≡ q
  first_late_unique s {r} {q} a b =
      split (ltb r q)
      (λ l. let h = ltb-true r q l in absurd (omega (arith, b.before r h, a.behind (omega (arith, b.within)))))
      (λ l.
      split (ltb q r)
      (λ m. let h = ltb-true q r m in absurd (omega (arith, a.before q h, b.behind (omega (arith, a.within)))))
      (λ m. omega (arith, ltb-false r q l, ltb-false q r m)))

  pub value_at_unique : (vs : List ℕ) (k t : ℕ) {a b : Value} → ((ms : List ℕ) → a ≡ value_at k t (versions_of n (columns ks ts vs ms)))
      → ((ms : List ℕ) → b ≡ value_at k t (versions_of n (columns ks ts vs ms))) → a ≡ b
  value_at_unique vs k t p q = p [] ∙ sym (q [])

  pub applied_at_unique : (vs : List ℕ) (k t : ℕ) (e : Effect) {a b : Value}
      → ((ms : List ℕ) → a ≡ applied e (value_at k t (versions_of n (columns ks ts vs ms))))
      → ((ms : List ℕ) → b ≡ applied e (value_at k t (versions_of n (columns ks ts vs ms)))) → a ≡ b
  applied_at_unique vs k t e p q = p [] ∙ sym (q [])

pub append_unique : (n : ℕ) (v : Version) (cs : Columns) {cs₁ cs₂ : Columns} → cs₁ ≡ with_version n v cs → cs₂ ≡ with_version n v cs → cs₁ ≡ cs₂
append_unique n v cs p q = p ∙ sym q

pub stamps_new_unique : (ks ts : List ℕ) (n : ℕ) (a b : Stamps) → (a.keys.now ≡ ks) × (a.times.now ≡ ts) × (a.used ≡ n)
    → (b.keys.now ≡ ks) × (b.times.now ≡ ts) × (b.used ≡ n) → (a.keys.now ≡ b.keys.now) × (a.times.now ≡ b.times.now) × (a.used ≡ b.used)
stamps_new_unique ks ts n a b p q = (p.0 ∙ sym q.0, p.1 ∙ sym q.1, p.2 ∙ sym q.2)
