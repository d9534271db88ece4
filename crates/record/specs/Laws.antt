-- Laws of records and their 24 bytes: what is written is what is read, and a record behind n records is the newest of n + 1.
-- Assumes nothing.
use Rattle.std.specs.Prelude.{◌≡◌, refl, List, [], ◌∷◌, ◌++◌, ℕ, zero, suc, ◌+◌, ◌-◌, ◌*◌, ◌^◌, ◌<◌, ◌≤◌, length, take, drop}
use Rattle.std.proofs.Common.{ap, sym, ◌∙◌, add-zero, arith, length-append, length-drop, take-append-drop, drop-drop, take-add, length-take-le}
use Rattle.std.proofs.Math.Nat.{sub-zero, zero-sub, suc-sub-suc}
use Rattle.std.proofs.Math.Seq.{drop-append-add}
use Rattle.rules.specs.declared.Record.{Record}
use Rattle.rules.specs.Kinds.{record_size}
use Rattle.record.specs.Bytes.{Bytes, le, field_at, record_at, records_in, bytes_of, appended}
use Rattle.record.specs.Numbers.{le_le_bytes, field_fits, field_bytes, field_front, field_split}

-- the numbers fit their bytes
pub record Fit (r : Record) : Type 0 where
  pub kind : r.kind < 2 ^ 8
  pub zeros : r.zeros < 2 ^ 24
  pub transaction : r.transaction < 2 ^ 32
  pub key : r.key < 2 ^ 32
  pub value : r.value < 2 ^ 32
  pub time : r.time < 2 ^ 64

-- the first four bytes are the zeros and the kind
pub first_four : (b : List ℕ) (at : ℕ) → at < length b → field_at b at 4 ≡ (record_at b at).zeros * 256 + (record_at b at).kind
first_four b at h = field_split b at 1 3 (omega arith)

-- what stands behind the bytes of a record does not matter to it
pub record_front : (a x : List ℕ) (at : ℕ) → at + record_size ≤ length a → record_at (a ++ x) at ≡ record_at a at
record_front a x at h =
    rw (
      field_front a x at 1 (omega arith),
      field_front a x (at + 1) 3 (omega arith),
      field_front a x (at + 4) 4 (omega arith),
      field_front a x (at + 8) 4 (omega arith),
      field_front a x (at + 12) 4 (omega arith),
      field_front a x (at + 16) 8 (omega arith),
    )

-- bytes behind the records do not matter
pub records_front : (a x : List ℕ) (n : ℕ) → n * record_size ≤ length a → records_in n (a ++ x) ≡ records_in n a
records_front a x zero h = refl
records_front a x (suc n) h = rw (record_front a x (n * record_size) (omega arith), records_front a x n (omega arith))

-- reading back what was written gives the record
pub record_back : (a x : List ℕ) (r : Record) → Fit r → record_at (a ++ (bytes_of r ++ x)) (length a) ≡ r
record_back a x r f =
    let at : (n w : ℕ) → field_at (a ++ (bytes_of r ++ x)) (length a + n) w ≡ field_at (bytes_of r ++ x) n w =
    λ n w. ap (λ (l : List ℕ). le (take w l)) (drop-append-add a (bytes_of r ++ x) n)
    in
    let k : field_at (a ++ (bytes_of r ++ x)) (length a) 1 ≡ field_at (bytes_of r ++ x) 0 1 =
    ap (λ (n : ℕ). field_at (a ++ (bytes_of r ++ x)) n 1) (sym (add-zero (length a))) ∙ at 0 1
    in
    rw (
      k,
      at 1 3,
      at 4 4,
      at 8 4,
      at 12 4,
      at 16 8,
      le_le_bytes 1 r.kind f.kind,
      le_le_bytes 3 r.zeros f.zeros,
      le_le_bytes 4 r.transaction f.transaction,
      le_le_bytes 4 r.key f.key,
      le_le_bytes 4 r.value f.value,
      le_le_bytes 8 r.time f.time,
    )

-- two parts of bytes, one behind the other
parts : (b : List ℕ) (at m next n : ℕ) {x y : List ℕ} → at + m ≡ next → x ≡ take m (drop at b) → y ≡ take n (drop next b)
    → x ++ y ≡ take (m + n) (drop at b)
parts b at m next n e p q = rw (p, q, ← e, take-add m n (drop at b), drop-drop m at b)

-- a record is determined by its bytes
pub same_bytes : (r s : Record) → Fit r → Fit s → bytes_of r ≡ bytes_of s → r ≡ s
same_bytes r s f g e =
    sym (record_back [] [] r f) ∙ ap (λ (l : List ℕ). record_at (l ++ []) 0) e ∙ record_back [] [] s g

-- and its bytes by the record
pub bytes_back : (b : List ℕ) (at : ℕ) → Bytes b → at + record_size ≤ length b → bytes_of (record_at b at) ≡ take record_size (drop at b)
bytes_back b at h l =
    parts b at 1 (at + 1) 23 (omega arith) (field_bytes b at 1 h (omega arith))
    (parts b (at + 1) 3 (at + 4) 20 (omega arith) (field_bytes b (at + 1) 3 h (omega arith))
    (parts b (at + 4) 4 (at + 8) 16 (omega arith) (field_bytes b (at + 4) 4 h (omega arith))
    (parts b (at + 8) 4 (at + 12) 12 (omega arith) (field_bytes b (at + 8) 4 h (omega arith))
    (parts b (at + 12) 4 (at + 16) 8 (omega arith) (field_bytes b (at + 12) 4 h (omega arith))
    (field_bytes b (at + 16) 8 h (omega arith))))))

-- a record read from bytes fits
pub fit_read : (b : List ℕ) (at : ℕ) → Bytes b → Fit (record_at b at)
fit_read b at h =
    record {
      kind = field_fits b at 1 h;
      zeros = field_fits b (at + 1) 3 h;
      transaction = field_fits b (at + 4) 4 h;
      key = field_fits b (at + 8) 4 h;
      value = field_fits b (at + 12) 4 h;
      time = field_fits b (at + 16) 8 h;
    }

-- a record written behind n records is the newest of n + 1
pub records_appended : (b : List ℕ) (n : ℕ) (r : Record) → Fit r → n * record_size + record_size ≤ length b
    → records_in (suc n) (appended b n r) ≡ r ∷ records_in n b
records_appended b n r f h =
    let e : length (take (n * record_size) b) ≡ n * record_size = length-take-le (n * record_size) b (omega arith) in
    let back : record_at (appended b n r) (n * record_size) ≡ r =
    ap (record_at (appended b n r)) (sym e) ∙ record_back (take (n * record_size) b) (drop (n * record_size + record_size) b) r f
    in
    let front : records_in n (appended b n r) ≡ records_in n b =
    records_front (take (n * record_size) b) (bytes_of r ++ drop (n * record_size + record_size) b) n (omega arith)
    ∙ sym (records_front (take (n * record_size) b) (drop (n * record_size) b) n (omega arith))
    ∙ ap (records_in n) (take-append-drop (n * record_size) b)
    in
    ap (λ (x : Record). x ∷ records_in n (appended b n r)) back ∙ ap (λ (rs : List Record). r ∷ rs) front

-- a record behind the used ones leaves the journal as long as it was
pub length_appended : (b : List ℕ) (n : ℕ) (r : Record) → n * record_size + record_size ≤ length b → length (appended b n r) ≡ length b
length_appended b n r h =
    let e : length (take (n * record_size) b) ≡ n * record_size = length-take-le (n * record_size) b (omega arith) in
    simp (length-append, length-drop, e) (omega arith)

-- as many records as asked for
pub length_records : (n : ℕ) (b : List ℕ) → length (records_in n b) ≡ n
length_records zero b = refl
length_records (suc n) b = rw (length_records n b)

-- a cut is a drop
pub drop_records : (x n : ℕ) (b : List ℕ) → drop x (records_in n b) ≡ records_in (n - x) b
drop_records zero n b = rw sub-zero
drop_records (suc x) zero b = rw zero-sub
drop_records (suc x) (suc n) b = rw suc-sub-suc (drop_records x n b)
