-- A whole store of which one byte before the journal is changed, other than a byte of the count of rows, is no whole store any more: of two whole
-- stores that differ in such a byte alone, the byte is the same. Assumes nothing.
use Rattle.std.specs.Prelude.{◌≡◌, ℕ, suc, ◌+◌, ◌-◌, ◌*◌, ◌<◌, ◌≤◌, true, List, ◌∷◌, ◌++◌, length, take, drop, nat_lt, slice_index}
use Rattle.std.proofs.Common.{sym, ap, ◌∙◌, arith, length-append, get_or-take, get_or-drop, ltb-true, ltb-false}
use Rattle.std.proofs.lemmas.List.{take-append-le}
use Rattle.std.proofs.Math.Seq.{take-append-add, drop-append-add, get_or-append_seam}
use Rattle.rules.specs.Bools.{split}
use Rattle.record.specs.Bytes.{Bytes, le, field_at, le_bytes}
use Rattle.record.specs.Numbers.{field_bytes, field_front}
use Rattle.store_file.specs.Layout.{head_bytes, base_row_bytes, sum_bytes, row_count, base_end, journal_at, sum_of, is_whole}
use Rattle.store_file.specs.Laws.{one_byte_told, whole_file}

-- what stands before and behind the byte
module _ (a c : List ℕ) (x y : ℕ) where
  behind : (n : ℕ) → length a < n → drop n (a ++ (x ∷ c)) ≡ drop n (a ++ (y ∷ c))
  behind n l =
      let m = n - suc (length a) in
      let e : n ≡ length a + suc m = omega arith in
      ap (λ (k : ℕ). drop k (a ++ (x ∷ c))) e
      ∙ drop-append-add a (x ∷ c) (suc m)
      ∙ sym (drop-append-add a (y ∷ c) (suc m))
      ∙ sym (ap (λ (k : ℕ). drop k (a ++ (y ∷ c))) e)

  field_behind : (at w : ℕ) → length a < at → field_at (a ++ (x ∷ c)) at w ≡ field_at (a ++ (y ∷ c)) at w
  field_behind at w l = ap (λ (z : List ℕ). le (take w z)) (behind at l)

  field_before : (at w : ℕ) → at + w ≤ length a → field_at (a ++ (x ∷ c)) at w ≡ field_at (a ++ (y ∷ c)) at w
  field_before at w l = field_front a (x ∷ c) at w l ∙ sym (field_front a (y ∷ c) at w l)

-- a byte read back from the number that it stands in
in_number : (a c : List ℕ) (x at w : ℕ) → at ≤ length a → length a < at + w → slice_index (take w (drop at (a ++ (x ∷ c)))) (length a - at) ≡ x
in_number a c x at w l u =
    let i = length a - at in
    let e : at + i ≡ length a = omega arith in
    get_or-take w (drop at (a ++ (x ∷ c))) i 0 (omega arith)
    ∙ get_or-drop at (a ++ (x ∷ c)) i 0
    ∙ ap (λ (k : ℕ). slice_index (a ++ (x ∷ c)) k) e
    ∙ get_or-append_seam a x c 0

module _ (a c : List ℕ) (x y : ℕ) (bx : Bytes (a ++ (x ∷ c))) (by : Bytes (a ++ (y ∷ c))) (wx : is_whole (a ++ (x ∷ c)) ≡ true)
    (wy : is_whole (a ++ (y ∷ c)) ≡ true) where
  longer : (z : ℕ) → length (a ++ (z ∷ c)) ≡ length a + suc (length c)
  longer z = length-append a (z ∷ c)

  small_x : x < 256
  small_x = rw (get_or-append_seam a x c 0) at (bx (length a) (omega (arith, longer x)))

  small_y : y < 256
  small_y = rw (get_or-append_seam a y c 0) at (by (length a) (omega (arith, longer y)))

  module _ (rows : row_count (a ++ (x ∷ c)) ≡ row_count (a ++ (y ∷ c))) where
    abbrev end : ℕ
    end = base_end (a ++ (x ∷ c))

    sum_x : sum_of (take end (a ++ (x ∷ c))) ≡ field_at (a ++ (x ∷ c)) end 8
    sum_x = (whole_file (a ++ (x ∷ c)) wx).summed

    sum_y : sum_of (take end (a ++ (y ∷ c))) ≡ field_at (a ++ (y ∷ c)) end 8
    sum_y =
        let e : base_end (a ++ (y ∷ c)) ≡ end = ap (λ (n : ℕ). head_bytes + n * base_row_bytes) (sym rows) in
        ap (λ (n : ℕ). sum_of (take n (a ++ (y ∷ c)))) (sym e)
        ∙ (whole_file (a ++ (y ∷ c)) wy).summed
        ∙ ap (λ (n : ℕ). field_at (a ++ (y ∷ c)) n 8) e

    -- in head or base
    base_told : length a < end → x ≡ y
    base_told l =
        let m = end - suc (length a) in
        let e : end ≡ length a + suc m = omega arith in
        let front : (z : ℕ) → take end (a ++ (z ∷ c)) ≡ a ++ (z ∷ take m c) =
        λ z. ap (λ (k : ℕ). take k (a ++ (z ∷ c))) e ∙ take-append-add a (z ∷ c) (suc m)
        in
        one_byte_told a (take m c) x y small_x small_y
        (sym (ap sum_of (front x)) ∙ sum_x ∙ field_behind a c x y end 8 l ∙ sym sum_y ∙ ap sum_of (front y))

    -- in the check sum
    sum_told : end ≤ length a → length a < end + sum_bytes → x ≡ y
    sum_told l u =
        let e : field_at (a ++ (x ∷ c)) end 8 ≡ field_at (a ++ (y ∷ c)) end 8 =
        sym sum_x ∙ ap sum_of (take-append-le end a (x ∷ c) l ∙ sym (take-append-le end a (y ∷ c) l)) ∙ sum_y
        in
        let t = (whole_file (a ++ (x ∷ c)) wx).there in
        let p : take 8 (drop end (a ++ (x ∷ c))) ≡ take 8 (drop end (a ++ (y ∷ c))) =
        sym (field_bytes (a ++ (x ∷ c)) end 8 bx t) ∙ ap (le_bytes 8) e ∙ field_bytes (a ++ (y ∷ c)) end 8 by (omega (arith, t, longer x, longer y))
        in
        sym (in_number a c x end 8 l u) ∙ ap (λ (z : List ℕ). slice_index z (length a - end)) p ∙ in_number a c y end 8 l u

    here : length a < journal_at (a ++ (x ∷ c)) → x ≡ y
    here l =
        split (nat_lt (length a) end)
        (λ t. base_told (ltb-true (length a) end t))
        (λ t. sum_told (ltb-false (length a) end t) l)

  pub changed_byte_told : length a < journal_at (a ++ (x ∷ c)) → (16 ≤ length a → 20 ≤ length a) → x ≡ y
  changed_byte_told l other =
      split (nat_lt (length a) 16)
      (λ t. here (field_behind a c x y 16 4 (ltb-true (length a) 16 t)) l)
      (λ t. here (field_before a c x y 16 4 (other (ltb-false (length a) 16 t))) l)
