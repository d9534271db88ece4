-- Decimal numbers as strings of ASCII bytes: the string of a number, the number that a string spells, and the strings without a leading zero.
-- Assumes nothing.
use Rattle.std.specs.Prelude.{◌≡◌, cond, List, [], ◌∷◌, ◌++◌, ℕ, zero, suc, ◌+◌, ◌-◌, ◌*◌, ◌/◌, ◌%◌, ◌≤◌, ◌<◌, ltb, length, get_or}

-- the byte of a digit from 0 to 9
abbrev pub glyph : ℕ → ℕ
glyph d = 48 + d

-- the last digits of n, at most `most` of them (what a `let` names is computed only where it is asked for)
unfoldable pub digits_in : ℕ → ℕ → List ℕ
digits_in zero n = []
digits_in (suc most) n =
    let longer = digits_in most (n / 10) ++ (glyph (n % 10) ∷ []) in
    cond (ltb n 10) (glyph n ∷ []) longer

-- the digits of n, the most significant first: whatever n is, it has at most n + 1
unfoldable pub digits : ℕ → List ℕ
digits n = digits_in (suc n) n

-- the number that a string of digits spells where n was read before it
abbrev pub spell_from : ℕ → List ℕ → ℕ
spell_from n [] = n
spell_from n (b ∷ s) = spell_from (n * 10 + (b - 48)) s

-- the number that a string of digits spells, the most significant first
abbrev pub spell : List ℕ → ℕ
spell s = spell_from 0 s

-- a byte from '0' to '9'
abbrev pub IsDigit : ℕ → Type 0
IsDigit b = (48 ≤ b) × (b ≤ 57)

-- a string of decimal digits without a leading zero: at least one digit, and the first is '0' only if it is the only one
pub record Plain (s : List ℕ) : Type 0 where
  pub some : 1 ≤ length s
  pub each : (i : ℕ) → i < length s → IsDigit (get_or s i 0)
  pub first : get_or s 0 0 ≡ 48 → length s ≡ 1
