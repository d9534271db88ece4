-- No second count, and no second contents of the lent columns, satisfies the contract of `keep_from`. Assumes nothing.
use Rattle.std.specs.Prelude.{◌≡◌, ℕ}
use Rattle.std.proofs.Common.{sym, ◌∙◌}
use Rattle.versions.specs.Versions.{Columns}
use Rattle.versions.specs.Columns.{Kept}

pub keep_from_unique : {T n : ℕ} {cs cs₁ cs₂ : Columns} {r s : ℕ} → Kept T n cs cs₁ r → Kept T n cs cs₂ s → (r ≡ s) × (cs₁ ≡ cs₂)
keep_from_unique p q = (p.count ∙ sym q.count, p.cells ∙ sym q.cells)
