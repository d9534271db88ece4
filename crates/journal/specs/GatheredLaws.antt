-- Laws of columns that a pass fills. Assumes nothing.
use Rattle.std.specs.Prelude.{◌≡◌, refl, Bool, true, false, cond, ℕ, suc, ◌+◌, ◌<◌, eqb, length, take, drop, get_or, set}
use Rattle.std.proofs.Common.{sym, ap, ◌∙◌, add-one, arith, drop-cons}
use mathlib.Core.List.{List, [], ◌∷◌, ◌++◌, reverse, reverse-cons}
use Rattle.std.proofs.lemmas.List.{length-reverse, set_at}
use Rattle.std.proofs.Math.Seq.{append_snoc, take-append_seam}
use Rattle.rules.specs.declared.Record.{Record}
use Rattle.rules.specs.Bools.{split}
use Rattle.rules.specs.Transactions.{any, of, runs, running}
use Rattle.rules.specs.Running.{running_runs}
use Rattle.rules.specs.Lists.{among}
use Rattle.rules.specs.Checkpoints.{late}
use Rattle.column.specs.AmongLaws.{among_end}
use Rattle.journal.specs.Gathered.{lates, Gathered}

-- nothing is passed
pub gathered_none : (column : List ℕ) → Gathered [] 0 0 column column
gathered_none column = record { few = omega arith; many = refl; cells = refl }

-- a record's turn: by a test it has one number more, or none
module _ (xs : List ℕ) (i count : ℕ) (entry column : List ℕ) (h : Gathered xs i count entry column) (test told : Bool) (d : told ≡ test) (x : ℕ) where
  pub gathered_more : (new : ℕ) (column' : List ℕ) → count < length entry → told ≡ true → new ≡ count + 1 → column' ≡ set column count x
      → Gathered (cond test (x ∷ xs) xs) (i + 1) new entry column'
  gathered_more new column' l t e f =
      let p : length (reverse xs) ≡ count = length-reverse xs ∙ sym h.many in
      let rest : drop count entry ≡ get_or entry count 0 ∷ drop (suc count) entry = drop-cons entry count 0 l in
      let c : set column count x ≡ reverse xs ++ x ∷ drop (suc count) entry =
      ap (λ (ys : List ℕ). set ys count x) (h.cells ∙ ap (λ (ys : List ℕ). reverse xs ++ ys) rest)
      ∙ set_at (reverse xs) (get_or entry count 0) (drop (suc count) entry) x count p
      in
      rw (sym d ∙ t)
      (record {
        few = omega (arith, h.few);
        many = e ∙ add-one count ∙ ap suc h.many;
        cells = f ∙ c ∙ rw (e, add-one, reverse-cons x xs) (sym (append_snoc (reverse xs) x (drop (suc count) entry)));
      })

  pub gathered_same : (new : ℕ) (column' : List ℕ) → told ≡ false → new ≡ count → column' ≡ column
      → Gathered (cond test (x ∷ xs) xs) (i + 1) new entry column'
  gathered_same new column' t e f =
      rw (sym d ∙ t) (record { few = omega (arith, h.few); many = e ∙ h.many; cells = rw e (f ∙ h.cells) })

among_reverse : (k : ℕ) (xs : List ℕ) → among k (reverse xs) ≡ among k xs
among_reverse k [] = refl
among_reverse k (x ∷ xs) = rw (reverse-cons x xs, among_end k x (reverse xs), among_reverse k xs)

-- the rows filled hold those numbers
pub gathered_among : (xs : List ℕ) (i count : ℕ) (entry column : List ℕ) → Gathered xs i count entry column → (k : ℕ)
    → among k (take count column) ≡ among k xs
gathered_among xs i count entry column h k =
    let p : length (reverse xs) ≡ count = length-reverse xs ∙ sym h.many in
    let t : take count column ≡ reverse xs = rw (h.cells, ← p) (take-append_seam (reverse xs) (drop (length (reverse xs)) entry)) in
    rw t (among_reverse k xs)

among_late : (m s : ℕ) (rs : List Record) → among m (lates s rs) ≡ any (late s) (of m rs)
among_late m s [] = refl
among_late m s (r ∷ rs) =
    split (late s r)
    (λ l. rw (l, among_late m s rs) (split (eqb r.transaction m) (λ e. rw (e, l)) (λ e. rw e)))
    (λ l. rw (l, among_late m s rs) (split (eqb r.transaction m) (λ e. rw (e, l)) (λ e. rw e)))

-- so a number stands in a column filled exactly if its transaction runs, or committed later
module _ (rs : List Record) (i count : ℕ) (entry column : List ℕ) where
  pub running_held : Gathered (running rs) i count entry column → (m : ℕ) → among m (take count column) ≡ runs m rs
  running_held h m = gathered_among (running rs) i count entry column h m ∙ running_runs m rs

  pub late_held : (s : ℕ) → Gathered (lates s rs) i count entry column → (m : ℕ) → among m (take count column) ≡ any (late s) (of m rs)
  late_held s h m = gathered_among (lates s rs) i count entry column h m ∙ among_late m s rs
