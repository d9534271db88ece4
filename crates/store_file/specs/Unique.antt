-- No second answer satisfies a contract: not of the check sum, of the test, or of `open` and the cells that it was lent. Assumes nothing.
use Rattle.std.specs.Prelude.{◌≡◌, ℕ, Bool, List}
use Rattle.std.proofs.Common.{sym, ◌∙◌}
use Rattle.store_file.specs.Layout.{sum_of, is_whole}
use Rattle.store_file.specs.Opened.{Opened, OpenedBy}

pub sum_unique : (bytes : List ℕ) {r s : ℕ} → r ≡ sum_of bytes → s ≡ sum_of bytes → r ≡ s
sum_unique bytes p q = p ∙ sym q

pub is_whole_unique : (file : List ℕ) {r s : Bool} → r ≡ is_whole file → s ≡ is_whole file → r ≡ s
is_whole_unique file p q = p ∙ sym q

pub open_unique : (file keys values : List ℕ) (r s : Opened) (keys' keys'' values' values'' : List ℕ) → OpenedBy file keys values r keys' values'
    → OpenedBy file keys values s keys'' values'' → (r ≡ s) × (keys' ≡ keys'') × (values' ≡ values'')
open_unique file keys values r s keys' keys'' values' values'' p q =
    (p.answer ∙ sym q.answer, p.keys_column ∙ sym q.keys_column, p.values_column ∙ sym q.values_column)
