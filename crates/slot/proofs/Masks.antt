-- The shifts, masks and counts of the code in terms of a number's bits, each by halving.
use mathlib.Core.Path.{◌≡◌, refl, sym, ◌∙◌}
use Prim.Native.Nat.{ℕ, zero, suc, ◌+◌, ◌-◌, ◌*◌, ◌/◌, ◌%◌, ◌^◌, ◌<◌, max, min}
use native.Mathlib.Nat.{add-zero, zero-add, one-mul, pow-suc, mod-eq_of_lt}
use native.Mathlib.Omega.{arith}
use borrow.Author.Tests.{eqb-true, eqb-false}
use lib.Bits.{bit_and, bit_or, and_step, or_step, or_zero_r, and_mask}
use lib.Count.{count_trailing_zeros}
use lib.Dec.{eqb}
use lib.Pow.{shr-shr, shl_exact, pow_pos, pow-lt}
use Rattle.rules.specs.Bools.{split}
use Rattle.slot.specs.Bits.{bit, with_bit, zero_from}
use Rattle.slot.specs.BitLaws.{half}

-- a shift to the right brings bit i to the front
pub shifted : (i n : ℕ) → eqb (n / 2 ^ i % 2) 1 ≡ bit n i
shifted zero n = let z : n / 1 ≡ n = omega arith in rw z
shifted (suc i) n = let z : suc i ≡ 1 + i = omega arith in rw (z, ← shr-shr n 1 i) (shifted i (n / 2))

-- a step of `bit_or` where the halves and the lowest bits of both are known
or_halves : (n m a b : ℕ) → m / 2 ≡ a → m % 2 ≡ b → bit_or n m ≡ bit_or (n / 2) a * 2 + max (n % 2) b
or_halves n m a b p q = rw (← p, ← q) (or_step n m)

and_halves : (n m a b : ℕ) → m / 2 ≡ a → m % 2 ≡ b → bit_and n m ≡ bit_and (n / 2) a * 2 + min (n % 2) b
and_halves n m a b p q = rw (← p, ← q) (and_step n m)

-- or with 2 ^ i makes bit i one
pub masked_one : (i n : ℕ) → bit_or n (2 ^ i) ≡ with_bit n i 1
masked_one zero n =
    or_halves n 1 0 1 refl refl ∙ rw or_zero_r (let z : max (n % 2) 1 ≡ 1 = omega arith in rw z)
masked_one (suc i) n =
    let p = pow-suc 2 i in
    let z : max (n % 2) 0 ≡ n % 2 = omega arith in
    or_halves n (2 ^ suc i) (2 ^ i) 0 (omega arith) (omega arith) ∙ rw (masked_one i (n / 2), z)

-- and with all k bits but bit i makes bit i zero
pub masked_zero : (k i n : ℕ) → i < k → n < 2 ^ k → bit_and n (2 ^ k - 1 - 2 ^ i) ≡ with_bit n i 0
masked_zero zero i n l h = absurd (omega arith)
masked_zero (suc k) zero n l h =
    let p = pow-suc 2 k in
    let q = pow_pos k in
    let z : min (n % 2) 0 ≡ 0 = omega arith in
    and_halves n (2 ^ suc k - 1 - 1) (2 ^ k - 1) 0 (omega arith) (omega arith)
    ∙ rw (and_mask (n / 2) k, mod-eq_of_lt (half k n h), z)
masked_zero (suc k) (suc i) n l h =
    let p = pow-suc 2 k in
    let q = pow-suc 2 i in
    let r = pow-lt {i = i} {j = k} (omega arith) in
    let z : min (n % 2) 1 ≡ n % 2 = omega arith in
    and_halves n (2 ^ suc k - 1 - 2 ^ suc i) (2 ^ k - 1 - 2 ^ i) 1 (omega arith) (omega arith)
    ∙ rw (masked_zero k i (n / 2) (omega arith) (half k n h), z)

-- a one shifted to the left within a byte
pub one_bit : (i : ℕ) → i < 8 → 1 * 2 ^ i % 256 ≡ 2 ^ i
one_bit i h = shl_exact 1 i 8 (omega arith) (omega arith) ∙ one-mul (2 ^ i)

-- the trailing zeros of the complement are the trailing ones: m has the c bits of n from i on
trailing : (c i n m : ℕ) → m < 2 ^ c → ((j : ℕ) → bit n (i + j) ≡ bit m j) → i + count_trailing_zeros c (2 ^ c - 1 - m) ≡ zero_from n i c
unfolding count_trailing_zeros
trailing zero i n m h e = omega arith
trailing (suc c) i n m h e =
    let p = pow-suc 2 c in
    let w : (2 ^ suc c - 1 - m) / 2 ≡ 2 ^ c - 1 - m / 2 = omega arith in
    let b : bit n i ≡ bit m 0 = rw add-zero at (e 0) in
    split (bit m 0)
    (λ t.
    let o = eqb-true (m % 2) 1 t in
    let z : (2 ^ suc c - 1 - m) % 2 ≡ 0 = omega arith in
    let r = trailing c (i + 1) n (m / 2) (half c m h) (λ j. let v : i + 1 + j ≡ i + suc j = omega arith in rw v (e (suc j))) in
    rw (b, t, z, w, ← r) (omega arith))
    (λ t.
    let o = eqb-false (m % 2) 1 t in
    let z : (2 ^ suc c - 1 - m) % 2 ≡ 1 = omega arith in
    rw (b, t, z) (omega arith))

-- so in a byte they lead to the lowest zero
pub lowest : (n : ℕ) → n < 256 → count_trailing_zeros 8 (255 - n) ≡ zero_from n 0 8
lowest n h = sym (zero-add (count_trailing_zeros 8 (255 - n))) ∙ trailing 8 0 n n h (λ j. rw zero-add)
