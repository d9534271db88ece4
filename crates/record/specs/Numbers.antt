-- Laws of numbers and the bytes that spell them, at any width. Assumes nothing.
use Rattle.std.specs.Prelude.{◌≡◌, refl, List, [], ◌∷◌, ◌++◌, ℕ, zero, suc, ◌+◌, ◌*◌, ◌/◌, ◌%◌, ◌^◌, ◌<◌, ◌≤◌, min, length, take, drop, get_or}
use Rattle.std.proofs.Common.{pow-suc, div-add-mod', mul_assoc, zero-add, arith, length-take, length-drop, take-add, drop-drop, drop-cons, get_or-take, get_or-drop, length-take-le}
use Rattle.std.proofs.Math.Nat.{one-le-pow}
use Rattle.std.proofs.lemmas.List.{drop-append-le, take-append-le}
use Rattle.record.specs.Bytes.{Bytes, le, field_at, le_bytes}

-- a number's bytes spell it
pub le_le_bytes : (n v : ℕ) → v < 256 ^ n → le (le_bytes n v) ≡ v
le_le_bytes zero v h = omega (arith, h)
le_le_bytes (suc n) v h =
    let p : 256 ^ suc n ≡ 256 ^ n * 256 = pow-suc 256 n in
    rw (le_le_bytes n (v / 256) (omega arith), div-add-mod' v 256)

-- the rest of bytes are bytes
bytes_rest : (b : ℕ) (bs : List ℕ) → Bytes (b ∷ bs) → Bytes bs
bytes_rest b bs h i l = h (suc i) (omega arith)

-- bytes are those of the number that they spell
pub le_bytes_le : (bs : List ℕ) → Bytes bs → le_bytes (length bs) (le bs) ≡ bs
le_bytes_le [] h = refl
le_bytes_le (b ∷ bs) h =
    let k : b < 256 = h 0 (omega arith) in
    let low : (le bs * 256 + b) % 256 ≡ b = omega arith in
    let high : (le bs * 256 + b) / 256 ≡ le bs = omega arith in
    rw (low, high, le_bytes_le bs (bytes_rest b bs h))

-- the first n bytes spell a number that fits n bytes
front_fits : (n : ℕ) (bs : List ℕ) → Bytes bs → le (take n bs) < 256 ^ n
front_fits zero bs h = omega arith
front_fits (suc n) [] h = one-le-pow (suc n) 256 (omega arith)
front_fits (suc n) (b ∷ bs) h =
    let p : 256 ^ suc n ≡ 256 ^ n * 256 = pow-suc 256 n in
    omega (arith, front_fits n bs (bytes_rest b bs h), h 0 (omega arith))

-- the end of bytes, and a part of them, are bytes
bytes_drop : (b : List ℕ) (at : ℕ) → Bytes b → Bytes (drop at b)
bytes_drop b at h i l = rw (get_or-drop at b i 0) (h (at + i) (omega (arith, length-drop at b)))

pub bytes_part : (b : List ℕ) (at n : ℕ) → Bytes b → Bytes (take n (drop at b))
bytes_part b at n h i l =
    let k : i < min n (length (drop at b)) = rw length-take at l in
    rw (get_or-take n (drop at b) i 0 (omega arith)) (bytes_drop b at h i (omega arith))

-- a number that was read fits its width
pub field_fits : (b : List ℕ) (at n : ℕ) → Bytes b → field_at b at n < 256 ^ n
field_fits b at n h = front_fits n (drop at b) (bytes_drop b at h)

-- the bytes of a number that was read are those it was read from
pub field_bytes : (b : List ℕ) (at n : ℕ) → Bytes b → at + n ≤ length b → le_bytes n (field_at b at n) ≡ take n (drop at b)
field_bytes b at n h l =
    let e : length (take n (drop at b)) ≡ n = length-take-le n (drop at b) (rw length-drop (omega arith)) in
    rw e at (le_bytes_le (take n (drop at b)) (bytes_part b at n h))

-- what stands behind the bytes that are read does not matter
pub field_front : (a x : List ℕ) (at n : ℕ) → at + n ≤ length a → field_at (a ++ x) at n ≡ field_at a at n
field_front a x at n h =
    let k : n ≤ length (drop at a) = rw length-drop (omega arith) in
    rw (drop-append-le at a x (omega arith), take-append-le n (drop at a) x k)

-- bytes in two parts
pub le_append : (a b : List ℕ) → le (a ++ b) ≡ le b * 256 ^ length a + le a
le_append [] b = omega arith
le_append (x ∷ a) b =
    rw (le_append a b, pow-suc 256 (length a), ← mul_assoc (le b) (256 ^ length a) 256) (omega arith)

-- a number is its low part and its high part
pub field_split : (b : List ℕ) (at m n : ℕ) → at + m ≤ length b
    → field_at b at (m + n) ≡ field_at b (at + m) n * 256 ^ m + field_at b at m
field_split b at m n h =
    let e : length (take m (drop at b)) ≡ m = length-take-le m (drop at b) (rw length-drop (omega arith)) in
    rw (take-add m n (drop at b), le_append, e, drop-drop m at b)

-- a number of one byte is the byte
pub field_byte : (b : List ℕ) (at : ℕ) → at < length b → field_at b at 1 ≡ get_or b at 0
field_byte b at h = rw (drop-cons b at 0 h, zero-add)
