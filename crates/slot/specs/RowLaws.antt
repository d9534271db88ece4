-- The rows of a slot mean what is found and noted in it. Assumes nothing.
use Rattle.std.specs.Prelude.{true, false, cond, ◌||◌, List, [], ◌∷◌, ◌≡◌, refl, ℕ, zero, suc, ◌<◌, eqb, ltb, length, get_or, set, take, Option, Some, None}
use Rattle.std.specs.Option.{is_some}
use Rattle.std.proofs.lemmas.Bool.{false≢true}
use Rattle.std.proofs.Common.{⊎_elim, ap, eq-or-lt_of_le, le_of_suc-le-suc, add-one, arith, eq-eqb, ne_eqb, eqb-true, ltb-true, length-set, get_or-set_same, get_or-set_other, get_or-take, length-take-le}
use Rattle.rules.specs.declared.Effect.{Effect}
use Rattle.rules.specs.Value.{Value}
use Rattle.rules.specs.Effects.{applied, joined, mark_of, amount_of, effect_by}
use Rattle.rules.specs.EffectLaws.{applied_joined, cells_hold}
use Rattle.rules.specs.Limits.{most_keys}
use Rattle.rules.specs.Bools.{split, or_right, or_none_left, or_none_right, or_false, not_both}
use Rattle.column.specs.Laws.{first_at, absent_nothing}
use Rattle.slot.specs.declared.Slot.{Slot}
use Rattle.slot.specs.Slot.{key_row, noted}
use Rattle.slot.specs.Formed.{Rowed}
use Rattle.slot.specs.Places.{Note, taken, note_keys, has_key, makes, joined_in, note, notes_of, slot_rows, made_in, taken_by}

-- there are as many as are asked for
pub length_rows : (keys values marks : List ℕ) (n : ℕ) → length (notes_of keys values marks n) ≡ n
length_rows keys values marks zero = refl
length_rows keys values marks (suc n) = ap suc (length_rows keys values marks n)

-- each row has a key
pub length_keys : (rows : List Note) → length (note_keys rows) ≡ length rows
length_keys [] = refl
length_keys (r ∷ rows) = rw (length_keys rows)

-- a key without a row keeps its value
pub makes_none : (k : ℕ) (rows : List Note) (v : Value) → has_key k rows ≡ false → makes k rows v ≡ v
makes_none k [] v e = refl
makes_none k (r ∷ rows) v e =
    rw (or_none_right (eqb r.key k) (has_key k rows) e, or_none_left (eqb r.key k) (has_key k rows) e)

-- an effect more in a key's row
has_joined : (j k : ℕ) (e : Effect) (rows : List Note) → has_key j (joined_in k e rows) ≡ has_key j rows
has_joined j k e [] = refl
has_joined j k e (r ∷ rows) =
    split (has_key k rows)
    (λ t. rw (t, has_joined j k e rows))
    (λ t. split (eqb r.key k) (λ u. rw (t, u, eqb-true r.key k u)) (λ u. rw (t, u)))

makes_joined : (j k : ℕ) (e : Effect) (rows : List Note) (v : Value) → has_key k rows ≡ true
    → makes j (joined_in k e rows) v ≡ cond (eqb k j) (applied e (makes j rows v)) (makes j rows v)
makes_joined j k e [] v h = absurd (false≢true h)
makes_joined j k e (r ∷ rows) v h =
    split (has_key k rows)
    (λ t.
    split (has_key j rows)
    (λ u. rw (t, has_joined j k e rows, u) (makes_joined j k e rows v t))
    (λ u.
    split (eqb k j)
    (λ q. not_both (has_key j rows) (rw (eqb-true k j q) at t) u)
    (λ q. rw (t, has_joined j k e rows, u, q))))
    (λ t.
    let z = eqb-true r.key k (rw (t, or_false) at h) in
    split (eqb k j)
    (λ q. rw (← eqb-true k j q, t, z, eq-eqb k k refl, t, eq-eqb k k refl) (applied_joined r.effect e v))
    (λ q. rw (t, z, eq-eqb k k refl, q)))

-- an update noted does its effect to its key, after what the key's row does
pub makes_note : (j k : ℕ) (e : Effect) (rows : List Note) (v : Value)
    → makes j (note k e rows) v ≡ cond (eqb k j) (applied e (makes j rows v)) (makes j rows v)
makes_note j k e rows v =
    split (has_key k rows)
    (λ t. rw t (makes_joined j k e rows v t))
    (λ t.
    split (eqb k j)
    (λ q. rw (← eqb-true k j q, t, eq-eqb k k refl, t, makes_none k rows v t))
    (λ q. split (has_key j rows) (λ u. rw (t, u, q)) (λ u. rw (t, u, q, makes_none j rows v u))))

-- follow n each way: it is i, or i stands below it
below_suc : {P : Type 0} (i n : ℕ) → i < suc n → (i ≡ n → P) → (i < n → P) → P
below_suc i n l f g = ⊎_elim f g (eq-or-lt_of_le (le_of_suc-le-suc l))

-- the rows are known by their cells
rows_same : (keys values marks keys' values' marks' : List ℕ) (n : ℕ)
    → ((j : ℕ) → j < n → get_or keys' j 0 ≡ get_or keys j 0)
    → ((j : ℕ) → j < n → get_or values' j 0 ≡ get_or values j 0)
    → ((j : ℕ) → j < n → get_or marks' j 0 ≡ get_or marks j 0)
    → notes_of keys' values' marks' n ≡ notes_of keys values marks n
rows_same keys values marks keys' values' marks' zero e f g = refl
rows_same keys values marks keys' values' marks' (suc n) e f g =
    rw (
      e n (omega arith),
      f n (omega arith),
      g n (omega arith),
      rows_same keys values marks keys' values' marks' n (λ j l. e j (omega arith)) (λ j l. f j (omega arith)) (λ j l. g j (omega arith)),
    )

module _ (keys values marks : List ℕ) (k : ℕ) where
  -- row i has the key
  has_at : (n i : ℕ) → i < n → get_or keys i 0 ≡ k → has_key k (notes_of keys values marks n) ≡ true
  has_at zero i l e = absurd (omega arith)
  has_at (suc n) i l e =
      below_suc i n l
      (λ z. rw (eq-eqb (get_or keys n 0) k (rw z at e)))
      (λ m. or_right (eqb (get_or keys n 0) k) (has_key k (notes_of keys values marks n)) (has_at n i m e))

  has_none : (n : ℕ) → ((j : ℕ) → j < n → get_or keys j 0 ≡ k → ⊥) → has_key k (notes_of keys values marks n) ≡ false
  has_none zero d = refl
  has_none (suc n) d = rw (ne_eqb (get_or keys n 0) k (d n (omega arith)), has_none n (λ j l. d j (omega arith)))

  -- row i is the first that has the key
  module _ (i : ℕ) (e : get_or keys i 0 ≡ k) (d : (j : ℕ) → j < i → get_or keys j 0 ≡ k → ⊥) where
    makes_at : (v : Value) (n : ℕ) → i < n → makes k (notes_of keys values marks n) v ≡ applied (effect_by (get_or marks i 0) (get_or values i 0)) v
    makes_at v zero l = absurd (omega arith)
    makes_at v (suc n) l =
        below_suc i n l
        (λ z. rw (← z, has_none i d, eq-eqb (get_or keys i 0) k e))
        (λ m. rw (has_at n i m e, makes_at v n m))

    -- the cells of row i hold an effect
    abbrev refill : Effect → ℕ → List Note
    refill x n = notes_of keys (set values i (amount_of x)) (set marks i (mark_of x)) n

    joined_at : (x : Effect) (n : ℕ) → i < n → i < length values → i < length marks
        → joined_in k x (notes_of keys values marks n) ≡ refill (joined (effect_by (get_or marks i 0) (get_or values i 0)) x) n
    joined_at x zero l b c = absurd (omega arith)
    joined_at x (suc n) l b c =
        let y = joined (effect_by (get_or marks i 0) (get_or values i 0)) x in
        below_suc i n l
        (λ z.
        rw (
          ← z,
          has_none i d,
          eq-eqb (get_or keys i 0) k e,
          get_or-set_same values i (amount_of y) 0 b,
          get_or-set_same marks i (mark_of y) 0 c,
          cells_hold y,
          e,
          rows_same keys values marks keys (set values i (amount_of y)) (set marks i (mark_of y)) i (λ j m. refl)
              (λ j m. get_or-set_other values i j (amount_of y) 0 (λ q. omega arith))
              (λ j m. get_or-set_other marks i j (mark_of y) 0 (λ q. omega arith)),
        ))
        (λ m.
        rw (
          has_at n i m e,
          joined_at x n m b c,
          get_or-set_other values i n (amount_of y) 0 (λ q. omega arith),
          get_or-set_other marks i n (mark_of y) 0 (λ q. omega arith),
        ))

-- follow an answer each way
pub cases : {P : Type 0} (f : Option ℕ) → ((i : ℕ) → f ≡ Some i → P) → (f ≡ None → P) → P
cases (Some i) g n = g i refl
cases None g n = n refl

-- row i is the first in use that has the key
pub record RowAt (s : Slot) (k i : ℕ) : Type 0 where
  pub below : i < s.count
  pub key : get_or s.keys i 0 ≡ k
  pub before : (j : ℕ) → j < i → get_or s.keys j 0 ≡ k → ⊥

module _ (s : Slot) (w : Rowed s) (k : ℕ) where
  -- the rows that are looked at are all those in use
  looked : length (take s.count s.keys) ≡ s.count
  looked = length-take-le s.count s.keys (omega (arith, w.keys, w.count))

  -- the row found is the first in use that has the key
  pub row_found : (i : ℕ) → key_row s k ≡ Some i → RowAt s k i
  row_found i e =
      let f = first_at k (take s.count s.keys) {i = i} e in
      let b : i < s.count = rw looked at f.row in
      record {
        below = b;
        key = rw (get_or-take s.count s.keys i 0 b) at f.key;
        before = λ j l. rw (get_or-take s.count s.keys j 0 (omega arith)) at (f.before j l);
      }

  -- where none is found, no row in use has the key
  pub row_absent : key_row s k ≡ None → (j : ℕ) → j < s.count → get_or s.keys j 0 ≡ k → ⊥
  row_absent e j l = rw (get_or-take s.count s.keys j 0 l) at (absent_nothing k (take s.count s.keys) e j (rw looked l))

  -- a key that is found has a row
  has_found : (i : ℕ) → RowAt s k i → has_key k (slot_rows s) ≡ true
  has_found i r = has_at s.keys s.values s.marks k s.count i r.below r.key

  has_absent : key_row s k ≡ None → has_key k (slot_rows s) ≡ false
  has_absent e = has_none s.keys s.values s.marks k s.count (row_absent e)

  -- a key has a row exactly if one is found
  pub has_row : has_key k (slot_rows s) ≡ is_some (key_row s k)
  has_row = cases (key_row s k) (λ i e. rw e (has_found i (row_found i e))) (λ e. rw e (has_absent e))

  -- and its value becomes what the effect in that row makes of it
  pub makes_row : (v : Value) → makes k (slot_rows s) v ≡ made_in s (key_row s k) v
  makes_row v =
      cases (key_row s k)
      (λ i e. let r = row_found i e in rw e (makes_at s.keys s.values s.marks k i r.key r.before v s.count r.below))
      (λ e. rw e (makes_none k (slot_rows s) v (has_absent e)))

  -- an update noted in a slot that has room for it is noted in its rows, and nothing else changes
  pub noted_place : (x : Effect) → (has_key k (slot_rows s) || ltb s.count most_keys) ≡ true
      → taken_by (noted s k x) ≡ taken s.number s.snapshot (note k x (slot_rows s))
  noted_place x h =
      cases (key_row s k)
      (λ i e.
      let r = row_found i e in
      rw (
        e,
        has_found i r,
        joined_at s.keys s.values s.marks k i r.key r.before x s.count r.below (omega (arith, r.below, w.values, w.count)) (omega (arith, r.below, w.marks, w.count)),
      ))
      (λ e.
      let n = has_absent e in
      let t : ltb s.count most_keys ≡ true = rw n at h in
      let l = ltb-true s.count most_keys t in
      let same = rows_same s.keys s.values s.marks (set s.keys s.count k) (set s.values s.count (amount_of x)) (set s.marks s.count (mark_of x)) s.count
      (λ j m. get_or-set_other s.keys s.count j k 0 (λ q. omega arith))
      (λ j m. get_or-set_other s.values s.count j (amount_of x) 0 (λ q. omega arith))
      (λ j m. get_or-set_other s.marks s.count j (mark_of x) 0 (λ q. omega arith)) in
      rw (
        e,
        n,
        t,
        add-one,
        get_or-set_same s.keys s.count k 0 (omega (arith, w.keys)),
        get_or-set_same s.values s.count (amount_of x) 0 (omega (arith, w.values)),
        get_or-set_same s.marks s.count (mark_of x) 0 (omega (arith, w.marks)),
        cells_hold x,
        same,
      ))

  -- the rows stay in order
  pub rowed_noted : (x : Effect) → Rowed (noted s k x)
  rowed_noted x =
      cases (key_row s k)
      (λ i e. rw e (record { keys = w.keys; values = rw length-set w.values; marks = rw length-set w.marks; count = w.count }))
      (λ e.
      split (ltb s.count most_keys)
      (λ t.
      rw (e, t)
      (record {
        keys = rw length-set w.keys;
        values = rw length-set w.values;
        marks = rw length-set w.marks;
        count = omega (arith, ltb-true s.count most_keys t);
      }))
      (λ t. rw (e, t) w))
