-- The bits of a number, the lowest first. Assumes nothing.
use Rattle.std.specs.Prelude.{Bool, cond, ℕ, zero, suc, ◌+◌, ◌*◌, ◌/◌, ◌%◌, eqb}

-- bit i is one
abbrev pub bit : ℕ → ℕ → Bool
bit n zero = eqb (n % 2) 1
bit n (suc i) = bit (n / 2) i

-- bit i made b, the others as they were
abbrev pub with_bit : ℕ → ℕ → ℕ → ℕ
with_bit n zero b = n / 2 * 2 + b
with_bit n (suc i) b = with_bit (n / 2) i b * 2 + n % 2

-- of c bits from i on the lowest that is zero, or i + c where all are one
abbrev pub zero_from : ℕ → ℕ → ℕ → ℕ
zero_from n i zero = i
zero_from n i (suc c) = cond (bit n i) (zero_from n (i + 1) c) i
