-- What the bits of a number say of it: which it has, how many are one, and what changing one does. Assumes nothing.
use Rattle.std.specs.Prelude.{true, false, ◌≡◌, refl, ℕ, zero, suc, ◌+◌, ◌*◌, ◌/◌, ◌%◌, ◌^◌, ◌<◌, ◌≤◌, eqb}
use Rattle.std.proofs.lemmas.Bool.{false≢true}
use Rattle.std.proofs.Common.{ap, sym, ◌∙◌, pow-suc, lt_of_not-le, arith}
use Rattle.std.proofs.Math.Arith.{lt-one}
use Rattle.rules.specs.Bools.{split}
use Rattle.slot.specs.Bits.{bit, with_bit, zero_from}

-- half of a number of k + 1 bits has k
pub half : (k n : ℕ) → n < 2 ^ suc k → n / 2 < 2 ^ k
half k n h = let p = pow-suc 2 k in omega arith

-- a number below 2 ^ k has no bit from k on
pub past : (k i n : ℕ) → k ≤ i → n < 2 ^ k → bit n i ≡ false
past zero zero n l h = rw (lt-one h)
past zero (suc i) n l h = rw (lt-one h) (past zero i 0 (omega arith) (omega arith))
past (suc k) zero n l h = absurd (omega arith)
past (suc k) (suc i) n l h = past k i (n / 2) (omega arith) (half k n h)

-- so a bit that is one stands below k
pub bit_below : (k i n : ℕ) → bit n i ≡ true → n < 2 ^ k → i < k
bit_below k i n e h = lt_of_not-le (λ l. false≢true (sym (past k i n l h) ∙ e))

-- a bit that is made b is b
pub bit_same : (i n b : ℕ) → b < 2 → bit (with_bit n i b) i ≡ eqb b 1
bit_same zero n b h = let z : (n / 2 * 2 + b) % 2 ≡ b = omega arith in rw z
bit_same (suc i) n b h = let z : (with_bit (n / 2) i b * 2 + n % 2) / 2 ≡ with_bit (n / 2) i b = omega arith in rw z (bit_same i (n / 2) b h)

-- the other bits are as they were
pub bit_other : (i j n b : ℕ) → b < 2 → (j ≡ i → ⊥) → bit (with_bit n i b) j ≡ bit n j
bit_other zero zero n b h d = absurd (d refl)
bit_other zero (suc j) n b h d = let z : (n / 2 * 2 + b) / 2 ≡ n / 2 = omega arith in rw z
bit_other (suc i) zero n b h d = let z : (with_bit (n / 2) i b * 2 + n % 2) % 2 ≡ n % 2 = omega arith in rw z
bit_other (suc i) (suc j) n b h d =
    let z : (with_bit (n / 2) i b * 2 + n % 2) / 2 ≡ with_bit (n / 2) i b = omega arith in
    rw z (bit_other i j (n / 2) b h (λ e. d (ap suc e)))

-- a number of k bits keeps k
pub with_below : (k i n b : ℕ) → b < 2 → i < k → n < 2 ^ k → with_bit n i b < 2 ^ k
with_below zero i n b h l m = absurd (omega arith)
with_below (suc k) zero n b h l m = let p = pow-suc 2 k in omega arith
with_below (suc k) (suc i) n b h l m =
    let p = pow-suc 2 k in
    let w = with_below k i (n / 2) b h (omega arith) (half k n m) in
    omega arith

-- the lowest zero of c bits from i on stands among them, or behind them
pub zero_from_lem : (n i c : ℕ) → (i ≤ zero_from n i c) × (zero_from n i c ≤ i + c)
zero_from_lem n i zero = (omega arith, omega arith)
zero_from_lem n i (suc c) =
    let w = zero_from_lem n (i + 1) c in
    split (bit n i) (λ t. rw t (omega arith, omega arith)) (λ t. rw t (omega arith, omega arith))
