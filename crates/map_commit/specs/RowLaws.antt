-- One row of a slot more: which keys the rows before it have, which rows count, what clashes, and what is written of them. Assumes nothing.
use Rattle.std.specs.Prelude.{◌≡◌, refl, true, false, List, [], ◌∷◌, ℕ, zero, suc, ◌+◌, ◌≤◌, ◌<◌, eqb, length, get_or, set, take}
use Rattle.std.proofs.Common.{◌∙◌, le_refl, add-one, arith, get_or-set_other, eqb-true}
use Rattle.std.proofs.lemmas.Bool.{eqb-false, not-true, not-false}
use Rattle.rules.specs.Value.{Value}
use Rattle.rules.specs.Bools.{split, or_left, or_right}
use Rattle.rules.specs.Effects.{is_add}
use Rattle.column.specs.Column.{first_row}
use Rattle.slot.specs.declared.Slot.{Slot}
use Rattle.slot.specs.Slot.{effect_at}
use Rattle.std.specs.Option.{is_some}
use Rattle.slot.specs.Formed.{Rowed}
use Rattle.slot.specs.Places.{Note, has_key}
use Rattle.slot.specs.RowLaws.{has_row}
use Rattle.versions.specs.declared.Version.{Version}
use Rattle.versions.specs.Versions.{Columns, versions_of, later}
use Rattle.versions.specs.Columns.{with_version}
use Rattle.versions.specs.Laws.{same_rows, each_row, none_lent}
use Rattle.map_store.specs.Meaning.{firsts, clash, version_of}
use Rattle.map_store.specs.Heads.{stamped}
use Rattle.map_commit.specs.Commit.{rows_to, row_at, is_first, Stamped}

-- a slot of which the first i rows are in use
abbrev up_to : Slot → ℕ → Slot
up_to s i = record { number = s.number; snapshot = s.snapshot; count = i; keys = s.keys; values = s.values; marks = s.marks }

module _ (s : Slot) where
  -- a key has one of the first i rows exactly if it is found among them
  pub has_before : Rowed s → (i k : ℕ) → i < s.count → has_key k (rows_to s i) ≡ is_some (first_row k (take i s.keys))
  has_before w i k l =
      has_row (up_to s i) (record { keys = w.keys; values = w.values; marks = w.marks; count = omega (arith, w.count) }) k

  pub first_more : (i : ℕ) → is_first s i ≡ true → firsts (rows_to s (i + 1)) ≡ row_at s i ∷ firsts (rows_to s i)
  first_more i e = rw (add-one, not-true (has_key (get_or s.keys i 0) (rows_to s i)) e)

  pub first_same : (i : ℕ) → is_first s i ≡ false → firsts (rows_to s (i + 1)) ≡ firsts (rows_to s i)
  first_same i e = rw (add-one, not-false (has_key (get_or s.keys i 0) (rows_to s i)) e)

  -- no fewer rows count among more
  pub firsts_among : (i n : ℕ) → i ≤ n → length (firsts (rows_to s i)) ≤ length (firsts (rows_to s n))
  firsts_among i zero l = let z : i ≡ 0 = omega arith in rw z (omega arith)
  firsts_among i (suc n) l =
      split (eqb i (suc n))
      (λ e. rw (eqb-true i (suc n) e) (le_refl _))
      (λ e.
      let ne = eqb-false i (suc n) e in
      let m = firsts_among i n (omega arith) in
      split (has_key (get_or s.keys n 0) (rows_to s n)) (λ t. rw t m) (λ t. rw t (omega arith)))

  module _ (t : ℕ) (versions : List Version) where
    module _ (i : ℕ) (first : is_first s i ≡ true) where
      pub clash_here : later t (get_or s.keys i 0) (is_add (effect_at s i)) versions ≡ true → clash t (firsts (rows_to s (i + 1))) versions ≡ true
      clash_here e =
          rw (first_more i first)
          (or_left (later t (get_or s.keys i 0) (is_add (effect_at s i)) versions) (clash t (firsts (rows_to s i)) versions) e)

      pub clash_none : later t (get_or s.keys i 0) (is_add (effect_at s i)) versions ≡ false → clash t (firsts (rows_to s i)) versions ≡ false
          → clash t (firsts (rows_to s (i + 1))) versions ≡ false
      clash_none e f = rw (first_more i first, e) f

    -- what clashes among the first rows clashes among more
    pub clash_among : (i n : ℕ) → i ≤ n → clash t (firsts (rows_to s i)) versions ≡ true → clash t (firsts (rows_to s n)) versions ≡ true
    clash_among i zero l e = let z : i ≡ 0 = omega arith in rw z at e
    clash_among i (suc n) l e =
        split (eqb i (suc n))
        (λ f. rw (eqb-true i (suc n) f) at e)
        (λ f.
        let ne = eqb-false i (suc n) f in
        let m = clash_among i n (omega arith) e in
        split (has_key (get_or s.keys n 0) (rows_to s n))
        (λ g. rw g m)
        (λ g. rw g (or_right (later t (get_or s.keys n 0) (is_add (effect_at s n)) versions) (clash t (firsts (rows_to s n)) versions) m)))

-- no more rows count than there are
pub length_firsts : (rows : List Note) → length (firsts rows) ≤ length rows
length_firsts [] = omega arith
length_firsts (r ∷ rows) =
    let m = length_firsts rows in
    split (has_key r.key rows) (λ t. rw t (omega arith)) (λ t. rw t (omega arith))

module _ (newest : ℕ → Value) (t used : ℕ) where
  -- a row appended behind those that were written is one row more
  pub stamped_more : (rows : List Note) (r : Note) (cs cs₁ cs₂ : Columns) (at : ℕ) → Stamped newest t used rows cs cs₁ at
      → cs₂ ≡ with_version at (version_of newest t r) cs₁ → Stamped newest t used (r ∷ rows) cs cs₂ (at + 1)
  stamped_more rows r cs cs₁ cs₂ at w p = record { count = omega (arith, w.count); cells = p ∙ rw (w.cells, w.count) }

  -- what is written behind the used rows leaves them
  pub stamped_used : (rows : List Note) (cs : Columns) → versions_of used (stamped newest used t rows cs) ≡ versions_of used cs
  stamped_used [] cs = refl
  stamped_used (r ∷ older) cs =
      let before = stamped newest used t older cs in
      let row = used + length older in
      let v = version_of newest t r in
      same_rows used (with_version row v before) before
      (λ i l.
      each_row (none_lent before) (λ field cells. set cells row (field v)) i (λ field cells _. get_or-set_other cells row i (field v) 0 (omega arith)))
      ∙ stamped_used older cs
