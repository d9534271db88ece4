-- The rows of a transaction in the map store, and the eight places: what noting, opening and amending change. Assumes nothing.
use Rattle.std.specs.Prelude.{◌≡◌, refl, Bool, true, false, cond, not, ◌&&◌, List, [], ◌∷◌, ℕ, suc, ◌<◌, ◌≤◌, eqb, ltb, length}
use Rattle.std.proofs.Common.{ap, sym, ◌∙◌, true≢false, arith, eqb-true, eq-eqb, ne_eqb, ltb-false, le-ltb}
use Rattle.std.proofs.lemmas.Bool.{false≢true, eqb-false, not-true}
use Rattle.rules.specs.declared.Record.{Record}
use Rattle.rules.specs.declared.Effect.{Effect}
use Rattle.rules.specs.Effects.{is_add}
use Rattle.rules.specs.EffectLaws.{add_joined}
use Rattle.rules.specs.Kinds.{is_update}
use Rattle.rules.specs.Transactions.{wrote, keys_written}
use Rattle.rules.specs.Lists.{among}
use Rattle.rules.specs.Bools.{split, and_left, and_right, or_right, or_none_left, or_none_right, not_both, or_false, and_false}
use Rattle.rules.specs.Running.{wrote_among}
use Rattle.slot.specs.Places.{Note, note_keys, Place, free, taken, has_key, joined_in, note, place_of, open_in, amend, occupied, holds}
use Rattle.map_store.specs.Meaning.{firsts}
use Rattle.history.proofs.MapVersions.{unexcused}

-- a key stands in the rows exactly if it is among their keys
pub has_among : (k : ℕ) (rows : List Note) → has_key k rows ≡ among k (note_keys rows)
has_among k [] = refl
has_among k (r ∷ rows) = rw (has_among k rows)

-- a row that takes up an effect keeps its key
joined_keys : (k : ℕ) (e : Effect) (rows : List Note) → note_keys (joined_in k e rows) ≡ note_keys rows
joined_keys k e [] = refl
joined_keys k e (r ∷ rows) =
    split (has_key k rows) (λ h. rw (h, joined_keys k e rows)) (λ h. rw h (split (eqb r.key k) (λ q. rw (q, eqb-true r.key k q)) (λ q. rw q)))

joined_has : (j k : ℕ) (e : Effect) (rows : List Note) → has_key j (joined_in k e rows) ≡ has_key j rows
joined_has j k e rows = has_among j (joined_in k e rows) ∙ ap (among j) (joined_keys k e rows) ∙ sym (has_among j rows)

-- the keys after a note
pub note_keys_lem : (k : ℕ) (e : Effect) (rows : List Note) → note_keys (note k e rows) ≡ cond (has_key k rows) (note_keys rows) (k ∷ note_keys rows)
note_keys_lem k e rows = split (has_key k rows) (λ h. rw (h, joined_keys k e rows)) (λ h. rw h)

-- the row of k adds, or there is none: of one key twice the oldest row counts
abbrev pub adds_at : ℕ → List Note → Bool
adds_at k [] = true
adds_at k (r ∷ rows) = cond (has_key k rows) (adds_at k rows) (cond (eqb r.key k) (is_add r.effect) true)

adds_none : (k : ℕ) (rows : List Note) → has_key k rows ≡ false → adds_at k rows ≡ true
adds_none k [] h = refl
adds_none k (r ∷ rows) h = rw (or_none_right (eqb r.key k) (has_key k rows) h, or_none_left (eqb r.key k) (has_key k rows) h)

adds_joined : (j k : ℕ) (e : Effect) (rows : List Note) → has_key k rows ≡ true
    → adds_at j (joined_in k e rows) ≡ cond (eqb k j) (adds_at j rows && is_add e) (adds_at j rows)
adds_joined j k e [] h = absurd (false≢true h)
adds_joined j k e (r ∷ rows) h =
    split (has_key k rows)
    (λ t.
    split (has_key j rows)
    (λ u. rw (t, joined_has j k e rows, u) (adds_joined j k e rows t))
    (λ u.
    split (eqb k j)
    (λ q. not_both (has_key j rows) (rw (eqb-true k j q) at t) u)
    (λ q. rw (t, joined_has j k e rows, u, q))))
    (λ t.
    let z = eqb-true r.key k (rw (t, or_false) at h) in
    split (eqb k j)
    (λ q. rw (← eqb-true k j q, t, z, eq-eqb k k refl, t, eq-eqb k k refl) (add_joined r.effect e))
    (λ q. rw (t, z, eq-eqb k k refl, q)))

-- whether rows add after a note
pub adds_note : (j k : ℕ) (e : Effect) (rows : List Note) → adds_at j (note k e rows) ≡ cond (eqb k j) (adds_at j rows && is_add e) (adds_at j rows)
adds_note j k e rows =
    split (has_key k rows)
    (λ t. rw t (adds_joined j k e rows t))
    (λ t.
    split (eqb k j)
    (λ q. rw (← eqb-true k j q, t, eq-eqb k k refl, t, adds_none k rows t))
    (λ q. split (has_key j rows) (λ u. rw (t, u, q)) (λ u. rw (t, u, q, adds_none j rows u))))

-- no key twice
abbrev distinct : List ℕ → Bool
distinct [] = true
distinct (k ∷ ks) = not (among k ks) && distinct ks

-- a transaction wrote each key once
keys_distinct : (own : List Record) → distinct (keys_written own) ≡ true
keys_distinct [] = refl
keys_distinct (r ∷ own) =
    split (is_update r)
    (λ u.
    split (wrote r.key own)
    (λ w. rw (u, w) (keys_distinct own))
    (λ w. rw (u, w, wrote_among r.key own, w) (keys_distinct own)))
    (λ u. rw u (keys_distinct own))

-- all rows count where no key stands twice
firsts_all : (rows : List Note) → distinct (note_keys rows) ≡ true → firsts rows ≡ rows
firsts_all [] h = refl
firsts_all (r ∷ rows) h =
    let a = not-true (among r.key (note_keys rows)) (and_left (not (among r.key (note_keys rows))) (distinct (note_keys rows)) h) in
    rw (has_among r.key rows, a, firsts_all rows (and_right (not (among r.key (note_keys rows))) (distinct (note_keys rows)) h))

-- all rows count where they have the keys that a transaction wrote
pub firsts_written : (rows : List Note) (own : List Record) → note_keys rows ≡ keys_written own → firsts rows ≡ rows
firsts_written rows own e = firsts_all rows (rw e (keys_distinct own))

-- each row adds exactly if a test of its key says so
pub data Adds (adds : ℕ → Bool) : List Note → Type 0 where
  none : Adds adds []
  more : {r : Note} {rows : List Note} → is_add r.effect ≡ adds r.key → Adds adds rows → Adds adds (r ∷ rows)

adds_each : (adds : ℕ → Bool) (rows : List Note) → distinct (note_keys rows) ≡ true → ((k : ℕ) → has_key k rows ≡ true → adds_at k rows ≡ adds k) → Adds adds rows
adds_each adds [] d h = none
adds_each adds (r ∷ rows) d h =
    let x = not-true (among r.key (note_keys rows)) (and_left (not (among r.key (note_keys rows))) (distinct (note_keys rows)) d) in
    let y : has_key r.key rows ≡ false = has_among r.key rows ∙ x in
    let z = eq-eqb r.key r.key refl in
    more (rw (y, z) at (h r.key (rw z)))
    (adds_each adds rows (and_right (not (among r.key (note_keys rows))) (distinct (note_keys rows)) d)
    (λ k e. rw e at (h k (or_right (eqb r.key k) (has_key k rows) e))))

-- of rows with the keys that a transaction wrote each adds exactly if its key's row does
pub adds_written : (adds : ℕ → Bool) (rows : List Note) (own : List Record) → note_keys rows ≡ keys_written own → ((k : ℕ) → adds_at k rows ≡ adds k) → Adds adds rows
adds_written adds rows own e h = adds_each adds rows (rw e (keys_distinct own)) (λ k x. h k)

-- and so which rows are not excused is told by the keys
pub unexcused_keys : (test : ℕ → Bool) (k : ℕ) (adds : Bool) (rows : List Note) → Adds test rows → unexcused k adds rows ≡ (has_key k rows && not (adds && test k))
unexcused_keys test k adds [] none = refl
unexcused_keys test k adds (r ∷ rows) (more e a) =
    rw (e, unexcused_keys test k adds rows a)
    (split (eqb r.key k)
    (λ q. rw (q, eqb-true r.key k q) (split (not (adds && test k)) (λ x. rw x) (λ x. rw (x, and_false))))
    (λ q. rw q))

-- places
abbrev pub is_free : Place → Bool
is_free free = true
is_free (taken n s rows) = false

-- no number has two places
abbrev pub once : List Place → Bool
once [] = true
once (free ∷ ps) = once ps
once (taken n s rows ∷ ps) = is_free (place_of n ps) && once ps

-- a free place
is_free_lem : (p : Place) → is_free p ≡ true → p ≡ free
is_free_lem free e = refl
is_free_lem (taken n s rows) e = absurd (false≢true e)

-- opening leaves other numbers
pub open_other : (n s j : ℕ) (ps : List Place) → eqb n j ≡ false → place_of j (open_in n s ps) ≡ place_of j ps
open_other n s j [] h = refl
open_other n s j (free ∷ ps) h = rw h
open_other n s j (taken m u rows ∷ ps) h = rw (open_other n s j ps h)

-- a taken place is not free
not_taken : {A : Type 0} {n s : ℕ} {rows : List Note} → taken n s rows ≡ free → A
not_taken e = absurd (true≢false (sym (ap is_free e)))

-- a number that has no place
free_other : (n m u : ℕ) (rows : List Note) (ps : List Place) → place_of n (taken m u rows ∷ ps) ≡ free → (eqb m n ≡ false) × (place_of n ps ≡ free)
free_other n m u rows ps h = split (eqb m n) (λ e. not_taken (rw e at h)) (λ e. (e, rw e at h))

-- the new number has its place
pub open_same : (n s : ℕ) (ps : List Place) → occupied ps < length ps → place_of n ps ≡ free → place_of n (open_in n s ps) ≡ taken n s []
open_same n s [] l h = absurd (omega arith)
open_same n s (free ∷ ps) l h = rw (eq-eqb n n refl)
open_same n s (taken m u rows ∷ ps) l h = let o = free_other n m u rows ps h in rw o.0 (open_same n s ps (omega arith) o.1)

-- one more is taken
pub open_count : (n s : ℕ) (ps : List Place) → occupied ps < length ps → occupied (open_in n s ps) ≡ suc (occupied ps)
open_count n s [] l = absurd (omega arith)
open_count n s (free ∷ ps) l = refl
open_count n s (taken m u rows ∷ ps) l = rw (open_count n s ps (omega arith))

-- there are as many places
pub open_length : (n s : ℕ) (ps : List Place) → length (open_in n s ps) ≡ length ps
open_length n s [] = refl
open_length n s (free ∷ ps) = refl
open_length n s (taken m u rows ∷ ps) = rw (open_length n s ps)

-- no number gets two places
pub open_once : (n s : ℕ) (ps : List Place) → place_of n ps ≡ free → once ps ≡ true → once (open_in n s ps) ≡ true
open_once n s [] h o = refl
open_once n s (free ∷ ps) h o = rw h o
open_once n s (taken m u rows ∷ ps) h o =
    let f = free_other n m u rows ps h in
    let e : eqb n m ≡ false = ne_eqb n m (λ x. eqb-false m n f.0 (sym x)) in
    rw (open_other n s m ps e, and_left (is_free (place_of m ps)) (once ps) o) (open_once n s ps f.1 (and_right (is_free (place_of m ps)) (once ps) o))

-- a place given up or changed; p is free or n's
module _ (n : ℕ) (p : Place) (own : (j : ℕ) (ps : List Place) → eqb n j ≡ false → place_of j (p ∷ ps) ≡ place_of j ps) where
  -- other numbers keep their places
  pub amend_other : (j : ℕ) (ps : List Place) → eqb n j ≡ false → place_of j (amend n p ps) ≡ place_of j ps
  amend_other j [] h = refl
  amend_other j (free ∷ ps) h = amend_other j ps h
  amend_other j (taken m u rows ∷ ps) h =
      split (eqb m n)
      (λ e. rw (e, own j ps h, eqb-true m n e, h))
      (λ e. rw (e, amend_other j ps h))

  -- no number gets two places
  pub amend_once : (once' : (ps : List Place) → is_free (place_of n ps) ≡ true → once ps ≡ true → once (p ∷ ps) ≡ true)
      → (ps : List Place) → once ps ≡ true → once (amend n p ps) ≡ true
  amend_once g [] o = refl
  amend_once g (free ∷ ps) o = amend_once g ps o
  amend_once g (taken m u rows ∷ ps) o =
      let a = and_left (is_free (place_of m ps)) (once ps) o in
      let b = and_right (is_free (place_of m ps)) (once ps) o in
      split (eqb m n)
      (λ e. rw e (g ps (rw (eqb-true m n e) at a) b))
      (λ e. rw (e, amend_other m ps (ne_eqb n m (λ x. eqb-false m n e (sym x))), a) (amend_once g ps b))

-- there are as many places
pub amend_length : (n : ℕ) (p : Place) (ps : List Place) → length (amend n p ps) ≡ length ps
amend_length n p [] = refl
amend_length n p (free ∷ ps) = rw (amend_length n p ps)
amend_length n p (taken m u rows ∷ ps) = split (eqb m n) (λ e. rw e) (λ e. rw (e, amend_length n p ps))

-- a place changed
pub amend_taken : (n u : ℕ) (rs : List Note) (ps : List Place) → is_free (place_of n ps) ≡ false
    → (place_of n (amend n (taken n u rs) ps) ≡ taken n u rs) × (occupied (amend n (taken n u rs) ps) ≡ occupied ps)
amend_taken n u rs [] h = absurd (true≢false h)
amend_taken n u rs (free ∷ ps) h = amend_taken n u rs ps h
amend_taken n u rs (taken m s rows ∷ ps) h =
    split (eqb m n)
    (λ e. rw (e, eq-eqb n n refl) (refl, refl))
    (λ e. let i = amend_taken n u rs ps (rw e at h) in rw (e, e) (i.0, rw i.1))

-- a place given up
pub amend_free : (n : ℕ) (ps : List Place) → once ps ≡ true → is_free (place_of n ps) ≡ false
    → (place_of n (amend n free ps) ≡ free) × (suc (occupied (amend n free ps)) ≡ occupied ps)
amend_free n [] o h = absurd (true≢false h)
amend_free n (free ∷ ps) o h = amend_free n ps o h
amend_free n (taken m s rows ∷ ps) o h =
    split (eqb m n)
    (λ e. rw e (is_free_lem (place_of n ps) (rw (eqb-true m n e) at (and_left (is_free (place_of m ps)) (once ps) o)), refl))
    (λ e. let i = amend_free n ps (and_right (is_free (place_of m ps)) (once ps) o) (rw e at h) in rw (e, e) (i.0, rw i.1))

-- no snapshot lies below T
pub holds_not : (T : ℕ) (ps : List Place) → once ps ≡ true → ((n s : ℕ) (rows : List Note) → place_of n ps ≡ taken n s rows → T ≤ s) → holds T ps ≡ false
holds_not T [] o h = refl
holds_not T (free ∷ ps) o h = holds_not T ps o h
holds_not T (taken m s rows ∷ ps) o h =
    rw (le-ltb s T (h m s rows (rw (eq-eqb m m refl))))
    (holds_not T ps (and_right (is_free (place_of m ps)) (once ps) o)
    (λ n u rs e.
    split (eqb m n)
    (λ x. not_both (is_free (place_of m ps)) (and_left (is_free (place_of m ps)) (once ps) o) (ap is_free (ap (λ (j : ℕ). place_of j ps) (eqb-true m n x) ∙ e)))
    (λ x. h n u rs (rw x e))))

-- where nothing is held, each snapshot is at least T
pub holds_none : (T n : ℕ) (ps : List Place) (m s : ℕ) (rows : List Note) → holds T ps ≡ false → place_of n ps ≡ taken m s rows → T ≤ s
holds_none T n [] m s rows h e = not_taken (sym e)
holds_none T n (free ∷ ps) m s rows h e = holds_none T n ps m s rows h e
holds_none T n (taken j u rs ∷ ps) m s rows h e =
    let a = or_none_left (ltb u T) (holds T ps) h in
    split (eqb j n)
    (λ x. let q : taken j u rs ≡ taken m s rows = rw x at e in let z : u ≡ s = cc in omega (arith, ltb-false u T a))
    (λ x. holds_none T n ps m s rows (or_none_right (ltb u T) (holds T ps) h) (rw x at e))
