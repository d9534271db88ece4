-- The laws of decimal numbers, for every number: its digits are the one plain string that spells it, and how many there are at most.
-- Assumes nothing.
use Rattle.std.specs.Prelude.{◌≡◌, refl, List, [], ◌∷◌, ◌++◌, ℕ, zero, suc, ◌+◌, ◌-◌, ◌*◌, ◌/◌, ◌%◌, ◌^◌, ◌≤◌, ◌<◌, length, take, get_or}
use Rattle.std.proofs.Common.{sym, ap, ◌∙◌, pow-suc, arith, length-append, take-suc}
use Rattle.std.proofs.Math.Logic.{by_cases}
use Rattle.std.proofs.Math.Decide.{dec_lt}
use Rattle.std.proofs.Math.ListN.{get_or-append}
use Rattle.std.proofs.Math.Seq.{take-length}
use Rattle.std.proofs.lemmas.List.{get_or_at}
use Rattle.decimal.specs.Digits.{glyph, digits, spell, spell_from, IsDigit, Plain}
use Rattle.decimal.specs.DigitsLaws.{digits_short, digits_long}

module _ (P : ℕ → Type 0) (short : (n : ℕ) → n < 10 → P n) (long : (n : ℕ) → 10 ≤ n → P (n / 10) → P n) where
  -- the same below a bound, by which it recurses
  below : (f n : ℕ) → n < f → P n
  below zero n h = absurd (omega arith)
  below (suc f) n h = by_cases (dec_lt n 10) (short n) (λ l. long n (omega arith) (below f (n / 10) (omega arith)))

  -- what holds below ten, and of each number if it holds of its tenth, holds of every number
  by_tenths : (n : ℕ) → P n
  by_tenths n = below (suc n) n (omega arith)

-- how many digits a number has: one below ten, else one more than its tenth
pub length_short : (n : ℕ) → n < 10 → length (digits n) ≡ 1
length_short n h = rw (digits_short n h)

pub length_long : (n : ℕ) → 10 ≤ n → length (digits n) ≡ length (digits (n / 10)) + 1
length_long n h = rw (digits_long n h, length-append)

-- a number has at least one digit
pub digits_some : (n : ℕ) → 1 ≤ length (digits n)
digits_some =
    by_tenths (λ n. 1 ≤ length (digits n)) (λ n l. omega (arith, length_short n l)) (λ n l h. omega (arith, length_long n l))

-- a number below a power of ten has at most as many digits as the exponent
pub digits_fit : (f n : ℕ) → n < 10 ^ suc f → length (digits n) ≤ suc f
digits_fit zero n h = omega (arith, length_short n (omega arith))
digits_fit (suc f) n h =
    let e : 10 ^ suc (suc f) ≡ 10 ^ suc f * 10 = pow-suc 10 (suc f) in
    by_cases (dec_lt n 10) (λ l. omega (arith, length_short n l)) (λ l. omega (arith, length_long n (omega arith), digits_fit f (n / 10) (omega arith)))

-- 20 digits hold a number of 64 bits, and 10 one of 32
pub digits_64 : (n : ℕ) → n < 2 ^ 64 → length (digits n) ≤ 20
digits_64 n h = digits_fit 19 n (omega arith)

pub digits_32 : (n : ℕ) → n < 2 ^ 32 → length (digits n) ≤ 10
digits_32 n h = digits_fit 9 n (omega arith)

-- a digit more is ten times as much and the digit
spell_more : (n : ℕ) (s : List ℕ) (b : ℕ) → spell_from n (s ++ (b ∷ [])) ≡ spell_from n s * 10 + (b - 48)
spell_more n [] b = refl
spell_more n (a ∷ s) b = spell_more (n * 10 + (a - 48)) s b

-- a number's digits spell it
pub spell_digits : (n : ℕ) → spell (digits n) ≡ n
spell_digits =
    by_tenths (λ n. spell (digits n) ≡ n) (λ n l. rw (digits_short n l) (omega arith))
    (λ n l h. rw (digits_long n l, spell_more 0 (digits (n / 10)) (glyph (n % 10)), h) (omega arith))

-- the first digit of a number above 0 is not 0
lead : (n : ℕ) → 0 < n → 48 < get_or (digits n) 0 0
lead =
    by_tenths (λ n. 0 < n → 48 < get_or (digits n) 0 0) (λ n l p. rw (digits_short n l) (omega arith))
    (λ n l h p. rw (digits_long n l, get_or-append (digits (n / 10)) (glyph (n % 10) ∷ []) 0 0 (digits_some (n / 10))) (h (omega arith)))

-- one digit is plain, and so is a digit more behind a first that is not 0
plain_one : (b : ℕ) → IsDigit b → Plain (b ∷ [])
plain_one b d = record { some = omega arith; each = λ i k. rw (get_or_at [] b [] 0 i (omega arith)) d; first = λ e. refl }

plain_more : (s : List ℕ) (b : ℕ) → Plain s → 48 < get_or s 0 0 → IsDigit b → Plain (s ++ (b ∷ []))
plain_more s b p f d =
    let l : length (s ++ (b ∷ [])) ≡ length s + 1 = length-append s (b ∷ []) in
    record {
      some = omega arith;
      each = λ i k. by_cases (dec_lt i (length s)) (λ m. rw (get_or-append s (b ∷ []) 0 i m) (p.each i m)) (λ m. rw (get_or_at s b [] 0 i (omega arith)) d);
      first = λ e. absurd (omega (arith, get_or-append s (b ∷ []) 0 0 p.some));
    }

-- a number's digits have no leading zero
pub plain_digits : (n : ℕ) → Plain (digits n)
plain_digits =
    by_tenths (λ n. Plain (digits n)) (λ n l. rw (digits_short n l) (plain_one (glyph n) (omega arith)))
    (λ n l h. rw (digits_long n l) (plain_more (digits (n / 10)) (glyph (n % 10)) h (lead (n / 10) (omega arith)) (omega arith)))

-- one digit, and a digit more, are the digits of the number that they spell
one_is : (b : ℕ) → IsDigit b → b ∷ [] ≡ digits (spell (b ∷ []))
one_is b d =
    let e : glyph (spell (b ∷ [])) ≡ b = omega arith in
    sym (digits_short (spell (b ∷ [])) (omega arith) ∙ rw e)

more_is : (s : List ℕ) (b : ℕ) → IsDigit b → 0 < spell s → s ≡ digits (spell s) → s ++ (b ∷ []) ≡ digits (spell (s ++ (b ∷ [])))
more_is s b d p h =
    let m = spell s * 10 + (b - 48) in
    let q : m / 10 ≡ spell s = omega arith in
    let r : glyph (m % 10) ≡ b = omega arith in
    rw (spell_more 0 s b, digits_long m (omega arith), q, r, ← h)

module _ (s : List ℕ) (p : Plain s) where
  -- more than one digit spell a number above 0
  positive : (k : ℕ) → suc k < length s → 0 < spell (take (suc k) s)
  positive zero h =
      let f : get_or s 0 0 ≡ 48 → ⊥ = λ e. omega (arith, p.first e) in
      rw (take-suc s 0 0 (omega arith)) (omega (arith, p.each 0 (omega arith)))
  positive (suc k) h = rw (take-suc s (suc k) 0 (omega arith), spell_more 0 (take (suc k) s) (get_or s (suc k) 0)) (omega (arith, positive k (omega arith)))

  -- each beginning of s is the digits of the number that it spells
  begins : (k : ℕ) → k < length s → take (suc k) s ≡ digits (spell (take (suc k) s))
  begins zero h = rw (take-suc s 0 0 h) (one_is (get_or s 0 0) (p.each 0 h))
  begins (suc k) h = rw (take-suc s (suc k) 0 h) (more_is (take (suc k) s) (get_or s (suc k) 0) (p.each (suc k) h) (positive k h) (begins k (omega arith)))

-- no other plain string spells the number
pub digits_only : (n : ℕ) (s : List ℕ) → Plain s → spell s ≡ n → s ≡ digits n
digits_only n s p e =
    let l : suc (length s - 1) ≡ length s = omega (arith, p.some) in
    rw (l, take-length s) at (begins s p (length s - 1) (omega arith)) ∙ ap digits e
