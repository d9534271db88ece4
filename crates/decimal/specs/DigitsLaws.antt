-- Laws of digits. Assumes nothing.
use Rattle.std.specs.Prelude.{◌≡◌, refl, cond, [], ◌∷◌, ◌++◌, ℕ, zero, suc, ◌/◌, ◌%◌, ◌≤◌, ◌<◌, ltb}
use Rattle.std.proofs.Common.{◌∙◌, arith, lt-ltb, le-ltb}
use Rattle.decimal.specs.Digits.{glyph, digits_in, digits}

-- any bound above n gives the same digits
enough : (f g n : ℕ) → n < f → n < g → digits_in f n ≡ digits_in g n
unfolding digits_in
enough zero g n h k = absurd (omega arith)
enough (suc f) zero n h k = absurd (omega arith)
enough (suc f) (suc g) zero h k = refl
enough (suc f) (suc g) (suc n) h k = rw (enough f g (suc n / 10) (omega arith) (omega arith))

-- the one law: a number below ten is its own digit, and any other has the digits of its tenth and then the remainder
pub digits_step : (n : ℕ) → digits n ≡ cond (ltb n 10) (glyph n ∷ []) (digits (n / 10) ++ (glyph (n % 10) ∷ []))
unfolding digits digits_in
digits_step zero = refl
digits_step (suc n) = rw (enough (suc n) (suc (suc n / 10)) (suc n / 10) (omega arith) (omega arith))

pub digits_short : (n : ℕ) → n < 10 → digits n ≡ glyph n ∷ []
digits_short n h = digits_step n ∙ rw (lt-ltb n 10 h)

pub digits_long : (n : ℕ) → 10 ≤ n → digits n ≡ digits (n / 10) ++ (glyph (n % 10) ∷ [])
digits_long n h = digits_step n ∙ rw (le-ltb n 10 h)
