-- `store_file::column` meets its contract. The loop's invariant: the rows passed, and the column of those that are left, are the whole. Assumes nothing.
use Rattle.std.proofs.Common.{◌≡◌, ℕ, suc, ◌+◌, ◌-◌, ◌*◌, ◌<◌, ◌≤◌, List, ◌++◌, length, take, drop, set, append_assoc, arith, take-append-drop, take-suc-set, drop-set-lt}
use Rattle.record.specs.Bytes.{field_at}
use Rattle.store_file.specs.Layout.{base_row_bytes, column_of}
use Rattle.store_file.proofs.column.Given as goal

module _ (file : List ℕ) (at rows : ℕ) where
  -- the column as it will be: the rows passed, and what is still to copy
  abbrev pub whole : List ℕ → ℕ → List ℕ
  whole to i = take i to ++ (column_of file (at + i * base_row_bytes) (rows - i) ++ drop rows to)

  pub turn : (to : List ℕ) (i v : ℕ) → i < rows → rows ≤ length to → v ≡ field_at file (at + i * base_row_bytes) 4 → whole (set to i v) (i + 1) ≡ whole to i
  turn to i v l f e =
      let w : rows - i ≡ suc (rows - (i + 1)) = omega arith in
      let s : i + 1 ≡ suc i = omega arith in
      let h : i < length to = omega arith in
      let n : at + (i + 1) * base_row_bytes ≡ at + i * base_row_bytes + base_row_bytes = omega arith in
      rw (n, w, s, take-suc-set to i v h, drop-set-lt rows to i v l, append_assoc, e)

  pub finish : (to : List ℕ) (i : ℕ) → i ≡ rows → whole to i ≡ to
  finish to i e =
      let w : rows - i ≡ 0 = omega arith in
      rw (w, e, take-append-drop)

abbrev pub invariant-loop-i : goal.invariant-loop-i
invariant-loop-i l = whole l.file l.at l.rows l.to l.i ≡ column_of l.file l.at l.rows ++ drop l.rows l.initial.to
