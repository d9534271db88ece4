-- The versions of the map store: what a commit adds to them and what a checkpoint keeps of them, read at a time. Assumes nothing.
use Rattle.std.specs.Prelude.{◌≡◌, refl, Bool, true, false, cond, not, ◌&&◌, ◌||◌, List, [], ◌∷◌, ℕ, ◌<◌, ◌≤◌, eqb, leb, ltb, length}
use Rattle.std.proofs.Common.{ap, sym, ◌∙◌, true≢false, arith, eqb-true, eq-eqb, leb-true, leb-false, ltb-true, ltb-false, le-leb, lt-ltb, le-ltb}
use Rattle.std.proofs.lemmas.Bool.{lt-leb}
use Rattle.rules.specs.declared.Effect.{Effect}
use Rattle.rules.specs.declared.Effect.TheVariants.{Assign, Add}
use Rattle.rules.specs.Effects.{is_add, mark_of}
use Rattle.rules.specs.EffectLaws.{applied_shown}
use Rattle.rules.specs.Value.{Value}
use Rattle.rules.specs.Bools.{split, and_left, and_right, and_false}
use Rattle.slot.specs.Places.{Note, has_key, makes}
use Rattle.slot.specs.RowLaws.{makes_none}
use Rattle.versions.specs.declared.Version.{Version}
use Rattle.versions.specs.Versions.{Best, nothing, at, better, newest_step, newest, shown, later, is_row, thin}
use Rattle.map_store.specs.Meaning.{stamp}
use Rattle.versions.specs.Versions as versions

-- version times fall from the newest on, the first at most m
abbrev pub ordered : ℕ → List Version → Bool
ordered m [] = true
ordered m (v ∷ vs) = leb v.time m && ordered v.time vs

-- a later bound
ordered_up : (m n : ℕ) (vs : List Version) → m ≤ n → ordered m vs ≡ true → ordered n vs ≡ true
ordered_up m n [] l h = refl
ordered_up m n (v ∷ vs) l h =
    let a = leb-true v.time m (and_left (leb v.time m) (ordered v.time vs) h) in
    rw (le-leb v.time n (omega arith)) (and_right (leb v.time m) (ordered v.time vs) h)

-- a version later than all is better
better_ordered : (k t m u : ℕ) (vs : List Version) → ordered m vs ≡ true → m < u → better (newest k t vs) u ≡ true
better_ordered k t m u [] h l = refl
better_ordered k t m u (v ∷ vs) h l =
    let a = leb-true v.time m (and_left (leb v.time m) (ordered v.time vs) h) in
    let i = better_ordered k t v.time u vs (and_right (leb v.time m) (ordered v.time vs) h) (omega arith) in
    split (eqb v.key k && (leb v.time t && better (newest k t vs) v.time)) (λ e. rw e (lt-ltb v.time u (omega arith))) (λ e. rw e i)

-- of what stands at or before T the time asked does not matter
newest_stands : (k T t m : ℕ) (vs : List Version) → ordered m vs ≡ true → m ≤ T → T ≤ t → newest k t vs ≡ newest k T vs
newest_stands k T t m [] h l j = refl
newest_stands k T t m (v ∷ vs) h l j =
    let a = leb-true v.time m (and_left (leb v.time m) (ordered v.time vs) h) in
    rw (
      newest_stands k T t v.time vs (and_right (leb v.time m) (ordered v.time vs) h) (omega arith) j,
      le-leb v.time T (omega arith),
      le-leb v.time t (omega arith),
    )

-- what a search finds among a commit's versions, each with its row's effect on what a key held
record Stamped (held : ℕ → Value) (k t u : ℕ) (rows : List Note) (vs : List Version) : Type 0 where
  val : shown (newest k t (stamp held u rows vs)) ≡ cond (has_key k rows) (makes k rows (held k)) (versions.value_at k t vs)
  over : better (newest k t (stamp held u rows vs)) u ≡ not (has_key k rows)

-- and that it finds it
newest_stamp : (held : ℕ → Value) (k t u m : ℕ) (rows : List Note) (vs : List Version) → ordered m vs ≡ true → m < u → u ≤ t → Stamped held k t u rows vs
newest_stamp held k t u m [] vs h l j = record { val = refl; over = better_ordered k t m u vs h l }
newest_stamp held k t u m (r ∷ rows) vs h l j =
    let i = newest_stamp held k t u m rows vs h l j in
    split (eqb r.key k)
    (λ e.
    split (has_key k rows)
    (λ x. record { val = rw (e, le-leb u t j, i.over, x) (rw x at i.val); over = rw (e, le-leb u t j, i.over, x) (rw x at i.over) })
    (λ x. record {
      val = rw (e, le-leb u t j, i.over, x, eqb-true r.key k e) (applied_shown r.effect (held k));
      over = rw (e, le-leb u t j, i.over, x, le-ltb u u (omega arith));
    }))
    (λ e.
    split (has_key k rows)
    (λ x. record { val = rw (e, x) (rw x at i.val); over = rw (e, x) (rw x at i.over) })
    (λ x. record { val = rw (e, x) (rw x at i.val); over = rw (e, x) (rw x at i.over) }))

-- a commit's versions, all later than what stands: each has its row's effect on the newest value of its key
pub value_stamp : (k t u m : ℕ) (rows : List Note) (vs : List Version) → ordered m vs ≡ true → m < u
    → versions.value_at k t (stamp (λ j. versions.value_at j m vs) u rows vs) ≡ cond (leb u t) (makes k rows (versions.value_at k t vs)) (versions.value_at k t vs)
value_stamp k t u m rows vs h l =
    split (leb u t)
    (λ e.
    let y = leb-true u t e in
    let same : versions.value_at k m vs ≡ versions.value_at k t vs = sym (ap shown (newest_stands k m t m vs h (omega arith) (omega arith))) in
    rw e
    ((newest_stamp (λ j. versions.value_at j m vs) k t u m rows vs h l y).val
    ∙ rw same (split (has_key k rows) (λ x. rw x) (λ x. rw x (sym (makes_none k rows (versions.value_at k t vs) x))))))
    (λ e. rw e (none_before rows (leb-false u t e)))
  where
    held : ℕ → Value
    held j = versions.value_at j m vs

    none_before : (rows : List Note) → t < u → versions.value_at k t (stamp held u rows vs) ≡ versions.value_at k t vs
    none_before [] z = refl
    none_before (r ∷ rows) z = rw (lt-leb u t z, and_false, none_before rows z)

-- some row of k is not excused where adds are
abbrev pub unexcused : ℕ → Bool → List Note → Bool
unexcused k adds [] = false
unexcused k adds (r ∷ rows) = (eqb r.key k && not (adds && is_add r.effect)) || unexcused k adds rows

-- a version is marked exactly if its row adds
marked_adds : (e : Effect) → not (eqb (mark_of e) 0) ≡ is_add e
marked_adds (Assign v) = refl
marked_adds (Add d) = refl

-- later versions after a commit
pub later_stamp : (held : ℕ → Value) (s k : ℕ) (adds : Bool) (u : ℕ) (rows : List Note) (vs : List Version)
    → later s k adds (stamp held u rows vs) ≡ ((ltb s u && unexcused k adds rows) || later s k adds vs)
later_stamp held s k adds u [] vs = rw and_false
later_stamp held s k adds u (r ∷ rows) vs =
    rw (later_stamp held s k adds u rows vs, marked_adds r.effect)
    (split (ltb s u)
    (λ e. rw e (split (eqb r.key k && not (adds && is_add r.effect)) (λ x. rw x) (λ x. rw x)))
    (λ e. rw (e, and_false)))

-- a commit's versions come last
pub ordered_stamp : (held : ℕ → Value) (u m : ℕ) (rows : List Note) (vs : List Version) → ordered m vs ≡ true → m ≤ u → ordered u (stamp held u rows vs) ≡ true
ordered_stamp held u m [] vs h l = ordered_up m u vs l h
ordered_stamp held u m (r ∷ rows) vs h l = rw (le-leb u u (omega arith)) (ordered_stamp held u m rows vs h l)

-- rule 3.10: what a checkpoint keeps
pub ordered_thin : (T : ℕ) (w : List Version) (m : ℕ) (vs : List Version) → ordered m vs ≡ true → ordered m (thin T w vs) ≡ true
ordered_thin T w m [] h = refl
ordered_thin T w m (v ∷ vs) h =
    let a = and_left (leb v.time m) (ordered v.time vs) h in
    let b = ordered_thin T w v.time vs (and_right (leb v.time m) (ordered v.time vs) h) in
    split (ltb T v.time || is_row (length vs) (newest v.key T w)) (λ e. rw (e, a) b)
    (λ e. rw e (ordered_up v.time m (thin T w vs) (leb-true v.time m a) b))

-- no version later than T goes
pub later_thin : (T s k : ℕ) (adds : Bool) (w vs : List Version) → T ≤ s → later s k adds (thin T w vs) ≡ later s k adds vs
later_thin T s k adds w [] l = refl
later_thin T s k adds w (v ∷ vs) l =
    let i = later_thin T s k adds w vs l in
    split (ltb T v.time)
    (λ e. rw (e, i))
    (λ e.
    let z = ltb-false T v.time e in
    rw (e, le-ltb s v.time (omega arith), and_false)
    (split (is_row (length vs) (newest v.key T w)) (λ x. rw (x, le-ltb s v.time (omega arith), and_false) i) (λ x. rw x i)))

-- the same version, perhaps in another row
data Twin : Best → Best → Type 0 where
  neither : Twin nothing nothing
  both : (i j t v : ℕ) → Twin (at i t v) (at j t v)

twin_better : {a b : Best} (u : ℕ) → Twin a b → better a u ≡ better b u
twin_better u neither = refl
twin_better u (both i j t v) = refl

twin_shown : {a b : Best} → Twin a b → shown a ≡ shown b
twin_shown neither = refl
twin_shown (both i j t v) = refl

twin_step : (k t : ℕ) (v : Version) (i j : ℕ) {a b : Best} → Twin a b → Twin (newest_step k t v i a) (newest_step k t v j b)
twin_step k t v i j {a} {b} h =
    rw (twin_better v.time h)
    (split (eqb v.key k && (leb v.time t && better b v.time)) (λ e. rw e (both i j v.time v.value)) (λ e. rw e h))

better_up : (b : Best) (x u : ℕ) → better b x ≡ true → x < u → better b u ≡ true
better_up nothing x u h l = refl
better_up (at i t v) x u h l = let z = ltb-true t x h in lt-ltb t u (omega arith)

better_down : (b : Best) (x u : ℕ) → better b x ≡ false → better b u ≡ true → x < u
better_down nothing x u h l = absurd (true≢false h)
better_down (at i t v) x u h l = let z = ltb-false t x h in let y = ltb-true t u l in omega arith

no_and : (a b c : Bool) → (a && b) ≡ false → (a && (b && c)) ≡ false
no_and true b c h = rw h
no_and false b c h = refl

-- fewer versions are no better
better_thin : (k t T u : ℕ) (w vs : List Version) → better (newest k t vs) u ≡ true → better (newest k t (thin T w vs)) u ≡ true
better_thin k t T u w [] h = h
better_thin k t T u w (v ∷ vs) h =
    split (eqb v.key k && leb v.time t)
    (λ c.
    let c1 = and_left (eqb v.key k) (leb v.time t) c in
    let c2 = and_right (eqb v.key k) (leb v.time t) c in
    split (better (newest k t vs) v.time)
    (λ b.
    let h2 : ltb v.time u ≡ true = rw (c1, c2, b) at h in
    kept_or c1 c2 h2 (better_thin k t T u w vs (better_up (newest k t vs) v.time u b (ltb-true v.time u h2))))
    (λ b.
    let h2 : better (newest k t vs) u ≡ true = rw (c1, c2, b) at h in
    kept_or c1 c2 (lt-ltb v.time u (better_down (newest k t vs) v.time u b h2)) (better_thin k t T u w vs h2)))
    (λ c.
    let n : (b : Bool) → (eqb v.key k && (leb v.time t && b)) ≡ false = λ b. no_and (eqb v.key k) (leb v.time t) b c in
    let h2 : better (newest k t vs) u ≡ true = rw (n (better (newest k t vs) v.time)) at h in
    let i = better_thin k t T u w vs h2 in
    split (ltb T v.time || is_row (length vs) (newest v.key T w)) (λ e. rw (e, n (better (newest k t (thin T w vs)) v.time)) i) (λ e. rw e i))
  where
    kept_or : eqb v.key k ≡ true → leb v.time t ≡ true → ltb v.time u ≡ true → better (newest k t (thin T w vs)) u ≡ true
        → better (newest k t (thin T w (v ∷ vs))) u ≡ true
    kept_or c1 c2 b i =
        split (ltb T v.time || is_row (length vs) (newest v.key T w))
        (λ e. rw (e, c1, c2) (split (better (newest k t (thin T w vs)) v.time) (λ f. rw f b) (λ f. rw f i)))
        (λ e. rw e i)

module _ (T t : ℕ) (l : T ≤ t) (w : List Version) where
  newest_thin : (k m : ℕ) (vs : List Version) → ordered m vs ≡ true → newest k T vs ≡ newest k T w → Twin (newest k t (thin T w vs)) (newest k t vs)
  newest_thin k m [] h e = neither
  newest_thin k m (v ∷ vs) h e =
      let o = and_right (leb v.time m) (ordered v.time vs) h in
      split (eqb v.key k)
      (λ x.
      let k2 = eqb-true v.key k x in
      split (ltb T v.time)
      (λ y.
      let z = ltb-true T v.time y in
      let i = newest_thin k v.time vs o (rw (x, lt-leb v.time T z) at e) in
      rw y (twin_step k t v (length (thin T w vs)) (length vs) i))
      (λ y.
      let z = ltb-false T v.time y in
      let st : newest k t vs ≡ newest k T vs = newest_stands k T t v.time vs o z l in
      let zt = le-leb v.time t (omega arith) in
      split (better (newest k T vs) v.time)
      (λ q.
      let e2 : newest k T w ≡ at (length vs) v.time v.value = sym (rw (x, le-leb v.time T z, q) at e) in
      let q2 : better (newest k t vs) v.time ≡ true = rw st q in
      let e3 : newest v.key T w ≡ at (length vs) v.time v.value = ap (λ (j : ℕ). newest j T w) k2 ∙ e2 in
      rw (y, e3, eq-eqb (length vs) (length vs) refl, x, zt, better_thin k t T v.time w vs q2, q2)
      (both (length (thin T w vs)) (length vs) v.time v.value))
      (λ q.
      let i = newest_thin k v.time vs o (rw (x, le-leb v.time T z, q) at e) in
      let q2 : better (newest k t vs) v.time ≡ false = rw st q in
      rw (y, x, zt, q2)
      (split (is_row (length vs) (newest v.key T w))
      (λ f. rw (f, x, zt, twin_better v.time i, q2) i)
      (λ f. rw f i)))))
      (λ x.
      let i = newest_thin k v.time vs o (rw x at e) in
      rw x
      (split (ltb T v.time || is_row (length vs) (newest v.key T w)) (λ y. rw (y, x) i) (λ y. rw y i)))

-- rule 3.10: values from T on stay
pub value_thin : (k T t m : ℕ) (vs : List Version) → ordered m vs ≡ true → T ≤ t → versions.value_at k t (thin T vs vs) ≡ versions.value_at k t vs
value_thin k T t m vs h l = twin_shown (newest_thin T t l vs k m vs h refl)
