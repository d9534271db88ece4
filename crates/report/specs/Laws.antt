-- The laws of texts: two texts written one behind the other are one, how long the lines are at most, and a list has no more rows than its base has
-- rows and its journal records. Assumes nothing.
use Rattle.std.specs.Prelude.{◌≡◌, List, [], ◌∷◌, ◌++◌, ℕ, suc, ◌+◌, ◌^◌, ◌≤◌, ◌<◌, eqb, ltb, length, take, drop, Some, None}
use Rattle.std.proofs.Common.{sym, ap, ◌∙◌, append_assoc, arith, length-append, length-drop, length-take, drop-drop, drop_at, take_at, length-take-le}
use Rattle.std.proofs.Math.Nat.{le-max_left}
use Rattle.rules.specs.declared.Record.{Record}
use Rattle.rules.specs.Value.{Value}
use Rattle.rules.specs.Bools.{split}
use Rattle.rules.specs.Kinds.{is_update, is_begin}
use Rattle.rules.specs.Times.{above}
use Rattle.rules.specs.Values.{Row, value_at}
use Rattle.rules.specs.Lists.{put, enter, listed, known_keys, list_at}
use Rattle.rules.specs.Columns.{rows_of, first_rows}
use Rattle.rules.specs.ColumnLaws.{length_keys}
use Rattle.decimal.specs.Digits.{digits}
use Rattle.decimal.specs.Printed.{Printed}
use Rattle.decimal.specs.Laws.{digits_32}
use Rattle.report.specs.Text.{field, line, newline, pair_line, key_is, value_is, row_bytes}
use Rattle.report.specs.Written.{placed, Written}

-- a text leaves the buffer as long as it was
pub length_placed : (b : List ℕ) (at : ℕ) (x : List ℕ) → at + length x ≤ length b → length (placed b at x) ≡ length b
length_placed b at x h =
    let e : length (take at b) ≡ at = length-take-le at b (omega arith) in
    simp (length-append, length-drop, e) (omega arith)

-- a text behind another is one text
pub placed_more : (b : List ℕ) (at : ℕ) (x y : List ℕ) → at ≤ length b → placed (placed b at x) (at + length x) y ≡ placed b at (x ++ y)
placed_more b at x y h =
    let d = drop (at + length x) b in
    let l : length (take at b ++ x) ≡ at + length x = rw (length-append, length-take-le at b h) in
    let e : placed b at x ≡ (take at b ++ x) ++ d = sym (append_assoc (take at b) x d) in
    let f : take (at + length x) (placed b at x) ≡ take at b ++ x = ap (λ (z : List ℕ). take (at + length x) z) e ∙ take_at (take at b ++ x) d (at + length x) l in
    let g : drop (at + length x) (placed b at x) ≡ d = ap (λ (z : List ℕ). drop (at + length x) z) e ∙ drop_at (take at b ++ x) d (at + length x) l in
    let m : at + length x + length y ≡ at + length (x ++ y) = rw length-append (omega arith) in
    let k : drop (at + length x + length y) (placed b at x) ≡ drop (at + length (x ++ y)) b =
    sym (drop-drop (length y) (at + length x) (placed b at x)) ∙ ap (λ (z : List ℕ). drop (length y) z) g ∙ drop-drop (length y) (at + length x) b
    ∙ ap (λ (n : ℕ). drop n b) m
    in
    ap (λ (z : List ℕ). z ++ (y ++ drop (at + length x + length y) (placed b at x))) f
    ∙ ap (λ (z : List ℕ). (take at b ++ x) ++ (y ++ z)) k
    ∙ append_assoc (take at b) x (y ++ drop (at + length (x ++ y)) b)
    ∙ ap (λ (z : List ℕ). take at b ++ z) (sym (append_assoc x y (drop (at + length (x ++ y)) b)))

-- digits that were printed were written
pub printed : {b b' : List ℕ} {at n r : ℕ} → Printed b at n r b' → Written b at (digits n) r b'
printed p = record { next = p.next; bytes = p.bytes }

-- where two texts fit, the first fits
pub fits_first : (b : List ℕ) (at : ℕ) (x y : List ℕ) → at + length (x ++ y) ≤ length b → at + length x ≤ length b
fits_first b at x y h = omega (arith, length-append x y)

module _ {b b' : List ℕ} {at r : ℕ} {x : List ℕ} (h : at + length x ≤ length b) (p : Written b at x r b') where
  -- a text leaves the buffer as long as it was
  pub length_written : length b' ≡ length b
  length_written = ap length p.bytes ∙ length_placed b at x h

  -- two writes, one behind the other, are one
  pub then : {b'' : List ℕ} {s : ℕ} {y : List ℕ} → Written b' r y s b'' → Written b at (x ++ y) s b''
  then {b''} {s} {y} q =
      record {
        next = omega (arith, length-append x y, p.next, q.next);
        bytes =
            q.bytes ∙ ap (λ (z : List ℕ). placed z r y) p.bytes ∙ ap (λ (n : ℕ). placed (placed b at x) n y) p.next
            ∙ placed_more b at x y (omega arith);
      }

-- where two texts fit, the second fits behind the first
pub fits_then : (b b' : List ℕ) (at r : ℕ) (x y : List ℕ) → at + length (x ++ y) ≤ length b → Written b at x r b' → r + length y ≤ length b'
fits_then b b' at r x y h p = omega (arith, length-append x y, p.next, length_written (fits_first b at x y h) p)

-- a text by another name
pub called : {b b' : List ℕ} {at r : ℕ} {x y : List ℕ} → x ≡ y → Written b at x r b' → Written b at y r b'
called {b} {b'} {at} {r} {x} {y} e p =
    record { next = p.next ∙ ap (λ (z : List ℕ). at + length z) e; bytes = p.bytes ∙ ap (λ (z : List ℕ). placed b at z) e }

-- how many bytes a line has
pub length_line : (name : List ℕ) (n : ℕ) → length (line name n) ≡ length name + length (digits n) + 1
length_line name n = length-append (field name n) newline ∙ ap (λ (m : ℕ). m + 1) (length-append name (digits n))

pub length_pair : (first second : List ℕ) (n m : ℕ)
    → length (pair_line first n second m) ≡ length first + length (digits n) + (length second + length (digits m) + 1)
length_pair first second n m =
    length-append (field first n) (line second m)
    ∙ ap (λ (k : ℕ). k + length (line second m)) (length-append first (digits n))
    ∙ ap (λ (k : ℕ). length first + length (digits n) + k) (length_line second m)

-- the line of a row, of two numbers of 32 bits
pub row_bytes_lem : (k v : ℕ) → k < 2 ^ 32 → v < 2 ^ 32 → length (pair_line key_is k value_is v) ≤ row_bytes
row_bytes_lem k v h l = omega (arith, length_pair key_is value_is k v, digits_32 k h, digits_32 v l)

-- the least next number is floor
pub above_floor : (floor : ℕ) (rs : List Record) → floor ≤ above floor rs
above_floor floor [] = omega arith
above_floor floor (r ∷ rs) =
    split (is_begin r)
    (λ e. rw e (omega (arith, le-max_left (above floor rs) (suc r.transaction), above_floor floor rs)))
    (λ e. rw e (above_floor floor rs))

put_length : (new : Row) (rows : List Row) → length (put new rows) ≤ length rows + 1
put_length new [] = omega arith
put_length new (row ∷ rows) =
    split (ltb new.key row.key)
    (λ a. rw a (omega arith))
    (λ a. split (eqb new.key row.key) (λ b. rw (a, b) (omega arith)) (λ b. rw (a, b) (omega (arith, put_length new rows))))

enter_length : (k : ℕ) (v : Value) (rows : List Row) → length (enter k v rows) ≤ length rows + 1
enter_length k None rows = omega arith
enter_length k (Some v) rows =
    split (eqb k 0) (λ e. rw e (omega arith)) (λ e. rw e (put_length (record { key = k; value = v }) rows))

listed_length : (f : ℕ → Value) (ks : List ℕ) → length (listed f ks) ≤ length ks
listed_length f [] = omega arith
listed_length f (k ∷ ks) = omega (arith, enter_length k (f k) (listed f ks), listed_length f ks)

known_length : (base : List Row) (rs : List Record) → length (known_keys base rs) ≤ length base + length rs
known_length base [] = omega (arith, length_keys base)
known_length base (r ∷ rs) =
    split (is_update r) (λ e. rw e (omega (arith, known_length base rs))) (λ e. rw e (omega (arith, known_length base rs)))

-- a list has at most one row for each row of the base and for each record
pub list_length : (base : List Row) (rs : List Record) (t : ℕ) → length (list_at base rs t) ≤ length base + length rs
list_length base rs t = omega (arith, listed_length (value_at base rs t) (known_keys base rs), known_length base rs)

rows_length : (keys values : List ℕ) → length (rows_of keys values) ≤ length keys
rows_length [] values = omega arith
rows_length (k ∷ keys) [] = omega arith
rows_length (k ∷ keys) (v ∷ values) = omega (arith, rows_length keys values)

-- the first n rows are at most n
pub front_length : (n : ℕ) (keys values : List ℕ) → length (first_rows n keys values) ≤ n
front_length n keys values = omega (arith, rows_length (take n keys) (take n values), length-take n keys)
