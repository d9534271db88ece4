-- What the answer of `first_row` says of a column's rows, both ways. Assumes nothing.
use Rattle.std.specs.Prelude.{List, [], ◌∷◌, ◌⊎◌, ◌≡◌, refl, ℕ, zero, suc, ◌+◌, ◌<◌, eqb, length, get_or, Some, None}
use Rattle.std.proofs.Common.{inl, inr, ⊎_elim, ap, ◌∙◌, le_of_suc-le-suc, not-suc-le-zero, arith, eqb-true}
use Rattle.std.proofs.lemmas.Bool.{eqb-false}
use Rattle.rules.specs.Bools.{split}
use Rattle.column.specs.Column.{first_from, first_row}

-- row i is the first that has the key
pub record First (k : ℕ) (xs : List ℕ) (i : ℕ) : Type 0 where
  pub row : i < length xs
  pub key : get_or xs i 0 ≡ k
  pub before : (j : ℕ) → j < i → get_or xs j 0 ≡ k → ⊥

-- no row has the key
abbrev pub Absent : ℕ → List ℕ → Type 0
Absent k xs = (j : ℕ) → j < length xs → get_or xs j 0 ≡ k → ⊥

-- what holds of a row's key and of the keys of the n rows after it holds of all n + 1
all_rows : (P : ℕ → Type 0) (x : ℕ) (xs : List ℕ) {n : ℕ} → P x → ((j : ℕ) → j < n → P (get_or xs j 0)) → (j : ℕ) → j < suc n → P (get_or (x ∷ xs) j 0)
all_rows P x xs p ps zero l = p
all_rows P x xs p ps (suc j) l = ps j (le_of_suc-le-suc l)

-- `first_from` gives one of its two answers, with what it says of the rows
seen : (n k : ℕ) (xs : List ℕ)
    → ((i : ℕ) × (first_from n k xs ≡ Some (n + i)) × First k xs i) ⊎ ((first_from n k xs ≡ None) × Absent k xs)
seen n k [] = inr (refl, λ j l. absurd (not-suc-le-zero l))
seen n k (x ∷ xs) =
    split (eqb x k)
    (λ t.
    let z : n ≡ n + 0 = omega arith in
    inl (0, rw t (ap Some z), record { row = omega arith; key = eqb-true x k t; before = λ j l. absurd (not-suc-le-zero l) }))
    (λ t.
    ⊎_elim
    (λ s.
    let z : n + 1 + s.0 ≡ n + suc s.0 = omega arith in
    let w = s.2 in
    inl (
      suc s.0,
      rw t (s.1 ∙ ap Some z),
      record { row = omega (arith, w.row); key = w.key; before = all_rows (λ y. y ≡ k → ⊥) x xs (eqb-false x k t) w.before },
    ))
    (λ s. inr (rw t s.0, all_rows (λ y. y ≡ k → ⊥) x xs (eqb-false x k t) s.1))
    (seen (n + 1) k xs))

-- two first rows are one
one_first : {k : ℕ} {xs : List ℕ} {i j : ℕ} → First k xs i → First k xs j → i ≡ j
one_first {i = i} {j = j} p q =
    let a : ¬ (j < i) = λ l. p.before j l q.key in
    let b : ¬ (i < j) = λ l. q.before i l p.key in
    omega arith

-- the first row that has the key is the one found
pub at_first : {k : ℕ} {xs : List ℕ} {i : ℕ} → First k xs i → first_row k xs ≡ Some i
at_first {k} {xs} {i} w =
    ⊎_elim
    (λ s. let e = one_first s.2 w in let z : 0 + s.0 ≡ i = omega arith in s.1 ∙ ap Some z)
    (λ s. absurd (s.1 i w.row w.key))
    (seen 0 k xs)

-- the row found is the first that has the key
pub first_at : (k : ℕ) (xs : List ℕ) {i : ℕ} → first_row k xs ≡ Some i → First k xs i
first_at k xs {i} e =
    ⊎_elim
    (λ s. let d = s.1 in let y : 0 + s.0 ≡ i = cc in let z : s.0 ≡ i = omega arith in rw z at s.2)
    (λ s. let d = s.0 in let z : ◌≡◌ {A = ℕ} 0 1 = cc in absurd (omega arith))
    (seen 0 k xs)

-- where no row has the key, none is found
pub nothing_absent : (k : ℕ) (xs : List ℕ) → Absent k xs → first_row k xs ≡ None
nothing_absent k xs a = ⊎_elim (λ s. absurd (a s.0 s.2.row s.2.key)) (λ s. s.0) (seen 0 k xs)

-- where none is found, no row has the key
pub absent_nothing : (k : ℕ) (xs : List ℕ) → first_row k xs ≡ None → Absent k xs
absent_nothing k xs e =
    ⊎_elim (λ s. let d = s.1 in let z : ◌≡◌ {A = ℕ} 0 1 = cc in absurd (omega arith)) (λ s. s.1) (seen 0 k xs)
