-- `record::put` meets its contract: the library's bytes of a number, from byte i on, are those of the number without its i lowest bytes.
-- Assumes nothing.
use Rattle.std.proofs.Common.{◌≡◌, refl, ap, ◌∙◌, List, ◌∷◌, ◌++◌, ℕ, zero, suc, ◌+◌, ◌-◌, ◌/◌, ◌%◌, ◌^◌, ◌≤◌, take, drop-drop, arith, pow-suc}
use Rattle.std.specs.Int.{bytes_low_first}
use Rattle.std.proofs.Math.Nat.{div-div-eq-div-mul, div-one}
use Rattle.record.specs.Bytes.{le_bytes}
use Rattle.record.proofs.put.Goals as goal

spelt : (i k v : ℕ) → bytes_low_first i k v ≡ le_bytes k (v / 256 ^ i)
spelt i zero v = refl
spelt zero (suc k) v = rw (spelt 1 k v, div-one v) refl
spelt (suc i) (suc k) v =
    let next : v / 256 ^ suc i / 256 ≡ v / 256 ^ suc (suc i) = rw (pow-suc 256 (suc i)) (div-div-eq-div-mul v (256 ^ suc i) 256) in
    rw (next, spelt (suc (suc i)) k v) refl

lowest : (k n v : ℕ) → k ≤ n → take k (le_bytes n v) ≡ le_bytes k v
lowest zero n v l = refl
lowest (suc k) (suc n) v l = ap (λ (bs : List ℕ). v % 256 ∷ bs) (lowest k n (v / 256) (omega arith))
lowest (suc k) zero v l = absurd (omega arith)

pub returns : goal.returns
returns c =
    let a = c.args in
    let w : a.at + a.width - a.at ≡ a.width = omega arith in
    let whole : c.to_le_bytes.result ≡ le_bytes 8 a.v = c.to_le_bytes.ensures ∙ rw (spelt 0 8 a.v, div-one a.v) refl in
    let part : c.copy_from_slice.new.self ≡ le_bytes a.width a.v =
    c.copy_from_slice.ensures.after ∙ ap (take a.width) whole ∙ lowest a.width 8 a.v c.requires.1 in
    rw (w, part) (ap (λ (bs : List ℕ). take a.at a.bytes.now ++ (le_bytes a.width a.v ++ bs)) (drop-drop a.width a.at a.bytes.now))
