-- Rows that a search passes change nothing of what it finds. Assumes nothing.
use Rattle.std.specs.Prelude.{◌≡◌, refl, Bool, true, false, ◌||◌, List, [], ◌∷◌, ℕ, zero, suc, ◌+◌, ◌-◌, ◌≤◌, ◌<◌, eqb, ltb, length, get_or, take, drop}
use Rattle.std.proofs.Common.{sym, ◌∙◌, arith, add-one, ne_eqb, ltb-true, ltb-false, le-ltb, length-drop, drop-cons, get_or-take, get_or-drop, length-take-le}
use Rattle.std.proofs.lemmas.Bool.{eqb-false}
use Rattle.std.proofs.Math.Seq.{drop-length}
use Rattle.rules.specs.Bools.{split, or_left, or_right, or_none_left, or_none_right, and_false, or_false}
use Rattle.versions.specs.Versions.{Columns, versions_of, newest, later}
use Rattle.std.specs.List.{list_any}
use Rattle.versions.specs.Search.{some, Passed, Early}

-- where no cell passes the test, none of them does
not_some : (p : ℕ → Bool) (xs : List ℕ) → list_any p xs ≡ false → (j : ℕ) → j < length xs → p (get_or xs j 0) ≡ false
not_some p [] h j l = absurd (omega arith)
not_some p (x ∷ xs) h zero l = or_none_left (p x) (list_any p xs) h
not_some p (x ∷ xs) h (suc j) l = not_some p xs (or_none_right (p x) (list_any p xs) h) j (omega arith)

module _ (p : ℕ → Bool) (cells : List ℕ) where
  -- one cell more is looked at: met or not, what is left completes to the answer
  module _ (i : ℕ) (l : i < length cells) (met : Bool) (h : (met || some p (drop i cells)) ≡ some p cells) where
    left : (met || (p (get_or cells i 0) || some p (drop (suc i) cells))) ≡ some p cells
    left = rw (drop-cons cells i 0 l) at h

    pub met_here : p (get_or cells i 0) ≡ true → (true || some p (drop (i + 1) cells)) ≡ some p cells
    met_here e =
        sym (or_right met (p (get_or cells i 0) || some p (drop (suc i) cells)) (or_left (p (get_or cells i 0)) (some p (drop (suc i) cells)) e)) ∙ left

    pub not_here : p (get_or cells i 0) ≡ false → (met || some p (drop (i + 1) cells)) ≡ some p cells
    not_here e = rw add-one (rw e at left)

  pub all_met : (met : Bool) → (met || some p (drop (length cells) cells)) ≡ some p cells → met ≡ some p cells
  all_met met h = rw (drop-length cells, or_false met) at h

-- none of the cells from i up to e passes the test
pub none_from : (p : ℕ → Bool) (i e : ℕ) (cells : List ℕ) → e ≤ length cells → list_any p (take (e - i) (drop i cells)) ≡ false
    → (j : ℕ) → i ≤ j → j < e → p (get_or cells j 0) ≡ false
none_from p i e cells l h j a b =
    let q : i + (j - i) ≡ j = omega arith in
    let w : p (get_or (take (e - i) (drop i cells)) (j - i) 0) ≡ false =
    not_some p (take (e - i) (drop i cells)) h (j - i) (rw (length-take-le (e - i) (drop i cells) (rw length-drop (omega arith))) (omega arith))
    in
    rw (get_or-take (e - i) (drop i cells) (j - i) 0 (omega arith), get_or-drop i cells (j - i) 0, q) at w

module _ (k : ℕ) (cs : Columns) where
  -- rows without the key
  abbrev Without : ℕ → ℕ → Type 0
  Without i m = (j : ℕ) → i ≤ j → j < i + m → get_or cs.keys j 0 ≡ k → ⊥

  newest_past : (t i m : ℕ) → Without i m → newest k t (versions_of (i + m) cs) ≡ newest k t (versions_of i cs)
  newest_past t i zero h = let e : i + 0 ≡ i = omega arith in rw e
  newest_past t i (suc m) h =
      let e : i + suc m ≡ suc (i + m) = omega arith in
      rw (e, ne_eqb (get_or cs.keys (i + m) 0) k (h (i + m) (omega arith) (omega arith))) (newest_past t i m (λ j a b. h j a (omega arith)))

  later_past : (s : ℕ) (adds : Bool) (i m : ℕ) → Without i m → later s k adds (versions_of (i + m) cs) ≡ later s k adds (versions_of i cs)
  later_past s adds i zero h = let e : i + 0 ≡ i = omega arith in rw e
  later_past s adds i (suc m) h =
      let e : i + suc m ≡ suc (i + m) = omega arith in
      rw (e, ne_eqb (get_or cs.keys (i + m) 0) k (h (i + m) (omega arith) (omega arith))) (later_past s adds i m (λ j a b. h j a (omega arith)))

  module _ {i n r : ℕ} (w : Passed k cs.keys i n r) where
    without : Without i (r - i)
    without j a b = w.none j a (omega (arith, w.from))

    pub newest_passed : (t : ℕ) → newest k t (versions_of r cs) ≡ newest k t (versions_of i cs)
    newest_passed t = let e : i + (r - i) ≡ r = omega (arith, w.from) in rw e at (newest_past t i (r - i) without)

    pub later_passed : (s : ℕ) (adds : Bool) → later s k adds (versions_of r cs) ≡ later s k adds (versions_of i cs)
    later_passed s adds = let e : i + (r - i) ≡ r = omega (arith, w.from) in rw e at (later_past s adds i (r - i) without)

  -- no version of early rows is later
  pub early_none : (s : ℕ) (adds : Bool) (n : ℕ) → Early s cs.times n → later s k adds (versions_of n cs) ≡ false
  early_none s adds zero h = refl
  early_none s adds (suc n) h =
      rw (le-ltb s (get_or cs.times n 0) (h n (omega arith)), and_false (eqb (get_or cs.keys n 0) k)) (early_none s adds n (λ j l. h j (omega arith)))

module _ (k : ℕ) (ks : List ℕ) (m n : ℕ) where
  -- nothing is passed yet
  pub passed_none : m ≤ n → Passed k ks m n m
  passed_none l = record { from = omega arith; within = l; none = λ j a b. absurd (omega arith) }

  -- the rows from i up to e are passed too
  pub passed_more : {i : ℕ} (e : ℕ) → i ≤ e → e ≤ n → n ≤ length ks → list_any (λ x. eqb x k) (take (e - i) (drop i ks)) ≡ false → Passed k ks m n i
      → Passed k ks m n e
  passed_more {i} e g l f h w =
      record {
        from = omega (arith, w.from);
        within = l;
        none =
            λ j a b.
            split (ltb j i)
            (λ q. w.none j a (ltb-true j i q))
            (λ q. eqb-false (get_or ks j 0) k (none_from (λ x. eqb x k) i e ks (omega arith) h j (ltb-false j i q) b));
      }

-- the rows from i up to e are early too
pub early_more : (s : ℕ) (ts : List ℕ) (i e : ℕ) → e ≤ length ts → list_any (λ x. ltb s x) (take (e - i) (drop i ts)) ≡ false → Early s ts i
    → Early s ts e
early_more s ts i e l h w j b =
    split (ltb j i)
    (λ q. w j (ltb-true j i q))
    (λ q. ltb-false s (get_or ts j 0) (none_from (λ x. ltb s x) i e ts l h j (ltb-false j i q) b))
