-- Laws of the layout: the check sum tells a change of any one byte, a column has as many numbers as there are rows, and what a whole store's bytes
-- say of its lengths. Assumes nothing.
use Rattle.std.specs.Prelude.{◌≡◌, ℕ, zero, suc, ◌+◌, ◌*◌, ◌/◌, ◌%◌, ◌^◌, ◌<◌, ◌≤◌, true, false, ◌&&◌, List, [], ◌∷◌, ◌++◌, length, take, drop, nat_eq, nat_le, refl, Some, None}
use Rattle.std.proofs.Common.{sym, ap, ◌∙◌, add-mul, mul_right_comm, mod-eq_of_lt, arith, length-append, take_at, leb-true, eqb-true}
use Rattle.std.proofs.Math.Nat.{mod-add-div', add-mul-mod_self_right}
use Rattle.rules.specs.Bools.{split, and_left, and_right}
use Rattle.rules.specs.Limits.{most_rows}
use Rattle.record.specs.Bytes.{le, field_at}
use Rattle.journal_store.specs.declared.Head.{Head}
use Rattle.store_file.specs.Layout.{signature, head_bytes, sum_bytes, base_row_bytes, row_count, base_end, journal_at, sum_start, sum_factor, sum_from, sum_of, is_whole, head_of, column_of, base_keys, base_values}
use Rattle.store_file.specs.Opened.{Opened, OpenedBy}

-- a sum goes on from the sum of what came before
sum_append : (s : ℕ) (a b : List ℕ) → sum_from s (a ++ b) ≡ sum_from (sum_from s a) b
sum_append s [] b = refl
sum_append s (x ∷ a) b = sum_append ((s * sum_factor + x) % 2 ^ 64) a b

-- a product of a remainder has the remainder of the product
mod_times : (x n m : ℕ) → x % m * n % m ≡ x * n % m
mod_times x n m =
    let e : x * n ≡ x % m * n + x / m * n * m =
    ap (λ (y : ℕ). y * n) (sym (mod-add-div' x m)) ∙ add-mul (x % m) (x / m * m) n ∙ ap (λ (y : ℕ). x % m * n + y) (mul_right_comm (x / m) m n)
    in
    sym (ap (λ (y : ℕ). y % m) e ∙ add-mul-mod_self_right (x % m * n) (x / m * n) m)

-- the factor is odd, so that another one undoes it
abbrev undoing : ℕ
undoing = 14886173955864302971

undone : (s : ℕ) → s < 2 ^ 64 → s * sum_factor % 2 ^ 64 * undoing % 2 ^ 64 ≡ s
undone s h =
    let e : s * sum_factor * undoing ≡ s + s * 887285111055 * 2 ^ 64 = omega arith in
    mod_times (s * sum_factor) undoing (2 ^ 64) ∙ ap (λ (n : ℕ). n % 2 ^ 64) e ∙ add-mul-mod_self_right s (s * 887285111055) (2 ^ 64) ∙ mod-eq_of_lt h

without : (a c b : ℕ) → (a + b) % 2 ^ 64 ≡ (c + b) % 2 ^ 64 → a % 2 ^ 64 ≡ c % 2 ^ 64
without a c b e = omega arith

-- sums that differ differ after one byte more, and two bytes behind one sum give two sums
sums_apart : (s t b : ℕ) → s < 2 ^ 64 → t < 2 ^ 64 → (s * sum_factor + b) % 2 ^ 64 ≡ (t * sum_factor + b) % 2 ^ 64 → s ≡ t
sums_apart s t b h k e =
    sym (undone s h) ∙ ap (λ (n : ℕ). n * undoing % 2 ^ 64) (without (s * sum_factor) (t * sum_factor) b e) ∙ undone t k

bytes_apart : (s x y : ℕ) → x < 256 → y < 256 → (s * sum_factor + x) % 2 ^ 64 ≡ (s * sum_factor + y) % 2 ^ 64 → x ≡ y
bytes_apart s x y h k e = omega arith

-- and after any bytes more
sums_stay_apart : (bs : List ℕ) (s t : ℕ) → s < 2 ^ 64 → t < 2 ^ 64 → sum_from s bs ≡ sum_from t bs → s ≡ t
sums_stay_apart [] s t h k e = e
sums_stay_apart (b ∷ bs) s t h k e =
    sums_apart s t b h k (sums_stay_apart bs ((s * sum_factor + b) % 2 ^ 64) ((t * sum_factor + b) % 2 ^ 64) (omega arith) (omega arith) e)

-- bytes that differ in one place have different check sums
pub one_byte_told : (a c : List ℕ) (x y : ℕ) → x < 256 → y < 256 → sum_of (a ++ (x ∷ c)) ≡ sum_of (a ++ (y ∷ c)) → x ≡ y
one_byte_told a c x y h k e =
    let s = sum_from sum_start a in
    bytes_apart s x y h k
    (sums_stay_apart c ((s * sum_factor + x) % 2 ^ 64) ((s * sum_factor + y) % 2 ^ 64) (omega arith) (omega arith)
    (sym (sum_append sum_start a (x ∷ c)) ∙ e ∙ sum_append sum_start a (y ∷ c)))

-- a column has a number for each row
pub length_column : (file : List ℕ) (at rows : ℕ) → length (column_of file at rows) ≡ rows
length_column file at zero = refl
length_column file at (suc rows) = rw (length_column file (at + base_row_bytes) rows)

-- and is the front of what it was copied into
pub column_front : (file x : List ℕ) (at rows : ℕ) → take rows (column_of file at rows ++ x) ≡ column_of file at rows
column_front file x at rows = take_at (column_of file at rows) x rows (length_column file at rows)

-- what the bytes of a whole store say of their lengths, and of the check sum
pub record WholeFile (file : List ℕ) : Type 0 where
  pub long : head_bytes + sum_bytes ≤ length file
  pub few : row_count file ≤ most_rows
  pub there : journal_at file ≤ length file
  pub summed : sum_of (take (base_end file) file) ≡ field_at file (base_end file) 8

pub whole_file : (file : List ℕ) → is_whole file ≡ true → WholeFile file
whole_file file e =
    let a = nat_le (head_bytes + sum_bytes) (length file) in
    let b = nat_eq (field_at file 0 4) (le signature) in
    let c = nat_le (row_count file) most_rows in
    let d = nat_le (journal_at file) (length file) in
    let f = nat_eq (sum_of (take (base_end file) file)) (field_at file (base_end file) 8) in
    let e2 = and_right b (c && (d && f)) (and_right a (b && (c && (d && f))) e) in
    let e3 = and_right c (d && f) e2 in
    record {
      long = leb-true _ _ (and_left a (b && (c && (d && f))) e);
      few = leb-true _ _ (and_left c (d && f) e2);
      there = leb-true _ _ (and_left d f e3);
      summed = eqb-true _ _ (and_right d f e3);
    }

-- what a caller of `open` knows of the answer for a whole store: the head, the journal's place, and the base at the front of its columns
pub record WholeAt (file keys' values' : List ℕ) (h : Head) (start : ℕ) : Type 0 where
  pub whole : is_whole file ≡ true
  pub headed : h ≡ head_of file
  pub starts : start ≡ journal_at file
  pub keys_front : take h.base.rows keys' ≡ base_keys file
  pub values_front : take h.base.rows values' ≡ base_values file
  pub in_keys : h.base.rows ≤ length keys'
  pub in_values : h.base.rows ≤ length values'
  pub there : start ≤ length file

-- for an answer that cannot be
never : {P : Type 0} → ◌≡◌ {A = ℕ} 0 1 → P
never z = absurd (omega arith)

module _ {file keys values keys' values' : List ℕ} {r : Opened} (o : OpenedBy file keys values r keys' values') where
  pub opened_broken : r ≡ None → is_whole file ≡ false
  opened_broken e = split (is_whole file) (λ w. let a = rw w at o.answer in never (cc)) (λ w. w)

  pub opened_whole : (h : Head) (start : ℕ) → r ≡ Some (h, start) → WholeAt file keys' values' h start
  opened_whole h start e =
      split (is_whole file)
      (λ w.
      let a : r ≡ Some (head_of file, journal_at file) = rw w at o.answer in
      let q : ◌≡◌ {A = Head × ℕ} (h, start) (head_of file, journal_at file) = cc in
      let k : keys' ≡ base_keys file ++ drop (row_count file) keys = rw w at o.keys_column in
      let v : values' ≡ base_values file ++ drop (row_count file) values = rw w at o.values_column in
      let f : h ≡ head_of file = ap (λ (p : Head × ℕ). p.0) q in
      let n : start ≡ journal_at file = ap (λ (p : Head × ℕ). p.1) q in
      let c : h.base.rows ≡ row_count file = ap (λ (x : Head). x.base.rows) f in
      record {
        whole = w;
        headed = f;
        starts = n;
        keys_front = rw (c, k) (column_front file (drop (row_count file) keys) head_bytes (row_count file));
        values_front = rw (c, v) (column_front file (drop (row_count file) values) (head_bytes + 4) (row_count file));
        in_keys = omega (arith, c, ap length k, length-append (base_keys file) (drop (row_count file) keys), length_column file head_bytes (row_count file));
        in_values = omega (arith, c, ap length v, length-append (base_values file) (drop (row_count file) values), length_column file (head_bytes + 4) (row_count file));
        there = rw n (whole_file file w).there;
      })
      (λ w. let a = rw w at o.answer in never (cc))
