-- No second answer satisfies the contract of a public function of this crate, nor a second column at exit. Assumes nothing.
use Rattle.std.specs.Prelude.{◌≡◌, ℕ, List, [], ◌∷◌}
use Rattle.std.proofs.Common.{sym, ◌∙◌}
use Rattle.sums.specs.Sums.{more, three, total, Totals, filled}

-- sums, of three numbers and of a column of any width, and bytes that are filled
pub three_unique : (sum x y z : ℕ) {r r' : ℕ} → r ≡ three sum x y z → r' ≡ three sum x y z → r ≡ r'
three_unique sum x y z p q = p ∙ sym q

pub total_unique : (sum : ℕ) (column : List ℕ) {r r' : ℕ} → r ≡ total sum column → r' ≡ total sum column → r ≡ r'
total_unique sum column p q = p ∙ sym q

-- a column of cells of which each is one number, as bytes and wider cells are
pub totals_unique : {T : Type 0} (is : T → ℕ → Type 0) → ((x : T) (m n : ℕ) → is x m → is x n → m ≡ n)
    → (sum : ℕ) (column : List T) {r r' : ℕ} → Totals is sum column r → Totals is sum column r' → r ≡ r'
totals_unique is one sum [] p q = p ∙ sym q
totals_unique is one sum (x ∷ column) {r} (m, p, ps) (n, q, qs) =
    totals_unique is one (more sum n) column (rw (one x m n p q) at ps) qs

-- `of` of bytes, and of the wider cells, whose `into` is the number itself: their sum is the total
pub totals_total : (sum : ℕ) (column : List ℕ) {r : ℕ} → Totals (λ x n. n ≡ x) sum column r → r ≡ total sum column
totals_total sum [] p = p
totals_total sum (x ∷ column) (n, e, p) = totals_total (more sum x) column (rw e at p)

pub fill_unique : (bytes : List ℕ) (start stop value : ℕ) {r r' : List ℕ} → r ≡ filled bytes start stop value → r' ≡ filled bytes start stop value → r ≡ r'
fill_unique bytes start stop value p q = p ∙ sym q
