-- Rule 3.6 from the side of the other writers: a transaction conflicts exactly if some record of a transaction that committed later than its snapshot
-- assigns a key that it wrote, or adds to one that it assigned. This is the form that a pass computes. Assumes nothing.
use Rattle.std.specs.Prelude.{◌≡◌, refl, Bool, true, false, cond, not, ◌&&◌, ◌||◌, ℕ, eqb, ltb}
use Rattle.std.proofs.Common.{sym, ◌∙◌, eqb-true, eq-eqb}
use mathlib.Core.List.{List, Memᴰ}
use Rattle.rules.specs.declared.Record.{Record}
use Rattle.rules.specs.Bools.{split, and_left, and_right, and_both, or_left, or_right, iff, not_both}
use Rattle.rules.specs.Kinds.{is_assign, is_update, is_commit}
use Rattle.rules.specs.Effects.{writes, assigns}
use Rattle.rules.specs.Transactions.{any, of, wrote}
use Rattle.rules.specs.Checkpoints.{late}
use Rattle.rules.specs.Conflicts.{only_added, met_on, committed_after, touched, clashes, conflict}
use Rattle.conflict.specs.Some.{Some, any_some, some_any, in_of, of_in}

-- an assign of a key that own wrote, or an add to one that own assigned
abbrev pub faces : List Record → Record → Bool
faces own w = cond (is_assign w) (wrote w.key own) (eqb w.kind 3 && any (assigns w.key) own)

-- such a record of a transaction that committed later than s
abbrev pub meets : List Record → List Record → ℕ → Record → Bool
meets whole own s w = faces own w && any (late s) (of w.transaction whole)

turned : (a b : ℕ) → eqb a b ≡ true → eqb b a ≡ true
turned a b e = eq-eqb b a (sym (eqb-true a b e))

chained : (a b c : ℕ) → eqb a b ≡ true → eqb b c ≡ true → eqb a c ≡ true
chained a b c e f = eq-eqb a c (eqb-true a b e ∙ eqb-true b c f)

-- not both added alone: one assigned
one_assigned : (a b : Bool) → not (not a && not b) ≡ true → b ≡ false → a ≡ true
one_assigned true b h e = refl
one_assigned false true h e = not_both true refl e
one_assigned false false h e = h

assigned_one : (a b : Bool) → (a || b) ≡ true → not (not a && not b) ≡ true
assigned_one true b h = refl
assigned_one false true h = refl
assigned_one false false h = h

module _ (own : List Record) (k : ℕ) (w : Record) where
  assign_faces : assigns k w ≡ true → wrote k own ≡ true → faces own w ≡ true
  assign_faces a o = rw (and_left (is_assign w) (eqb w.key k) a, eqb-true w.key k (and_right (is_assign w) (eqb w.key k) a)) o

  write_faces : writes k w ≡ true → wrote k own ≡ true → any (assigns k) own ≡ true → faces own w ≡ true
  write_faces x o s =
      let u = and_left (is_update w) (eqb w.key k) x in
      let e = and_right (is_update w) (eqb w.key k) x in
      split (is_assign w)
      (λ a. assign_faces (and_both (is_assign w) (eqb w.key k) a e) o)
      (λ a. let three : eqb w.kind 3 ≡ true = rw a at u in rw (a, three, eqb-true w.key k e) s)

module _ (own other : List Record) where
  -- one who met the transaction on a key has a record that faces it
  meeting_faces : (k : ℕ) → met_on k own other ≡ true → Some (faces own) other
  meeting_faces k h =
      let mine = any (assigns k) own in
      let theirs = any (assigns k) other in
      let o = and_left (wrote k own) (wrote k other && not (not mine && not theirs)) h in
      let both = and_right (wrote k own) (wrote k other && not (not mine && not theirs)) h in
      let t = and_left (wrote k other) (not (not mine && not theirs)) both in
      split theirs
      (λ a. let d = any_some (assigns k) other a in record { at = d.at; here = d.here; passes = assign_faces own k d.at d.passes o })
      (λ a.
      let d = any_some (writes k) other t in
      let s = one_assigned mine theirs (and_right (wrote k other) (not (not mine && not theirs)) both) a in
      record { at = d.at; here = d.here; passes = write_faces own k d.at d.passes o s })

  -- and who has such a record met it on the key of one of its updates
  facing_meets : (w : Record) → Memᴰ w other → faces own w ≡ true → Some (λ r. is_update r && met_on r.key own other) own
  facing_meets w m f =
      split (is_assign w)
      (λ a.
      let d = any_some (writes w.key) own (rw a at f) in
      met d.at d.here (and_left (is_update d.at) (eqb d.at.key w.key) d.passes)
      (and_right (is_update d.at) (eqb d.at.key w.key) d.passes) (or_left (is_assign w) (eqb w.kind 3) a)
      (λ k e. or_right (any (assigns k) own) (any (assigns k) other) (some_any (assigns k) w other m (and_both (is_assign w) (eqb w.key k) a e))))
      (λ a.
      let both : (eqb w.kind 3 && any (assigns w.key) own) ≡ true = rw a at f in
      let d = any_some (assigns w.key) own (and_right (eqb w.kind 3) (any (assigns w.key) own) both) in
      let b = and_left (is_assign d.at) (eqb d.at.key w.key) d.passes in
      let e = and_right (is_assign d.at) (eqb d.at.key w.key) d.passes in
      met d.at d.here (or_left (is_assign d.at) (eqb d.at.kind 3) b) e
      (or_right (is_assign w) (eqb w.kind 3) (and_left (eqb w.kind 3) (any (assigns w.key) own) both))
      (λ k g.
      or_left (any (assigns k) own) (any (assigns k) other)
      (some_any (assigns k) d.at own d.here (and_both (is_assign d.at) (eqb d.at.key k) b (chained d.at.key w.key k e g)))))
    where
      met : (r : Record) → Memᴰ r own → is_update r ≡ true → eqb r.key w.key ≡ true → is_update w ≡ true
          → ((k : ℕ) → eqb w.key k ≡ true → (any (assigns k) own || any (assigns k) other) ≡ true)
          → Some (λ r. is_update r && met_on r.key own other) own
      met r here u e v one =
          let k = r.key in
          let g = turned r.key w.key e in
          let mine = some_any (writes k) r own here (and_both (is_update r) (eqb r.key k) u (eq-eqb k k refl)) in
          let theirs = some_any (writes k) w other m (and_both (is_update w) (eqb w.key k) v g) in
          let none = not (only_added k own && only_added k other) in
          record {
            at = r;
            here = here;
            passes =
                and_both (is_update r) (met_on k own other) u
                (and_both (wrote k own) (wrote k other && none) mine
                (and_both (wrote k other) none theirs (assigned_one (any (assigns k) own) (any (assigns k) other) (one k g))));
          }

module _ (n s : ℕ) (rs : List Record) where
  there : any (clashes rs s (of n rs)) (of n rs) ≡ true → any (meets rs (of n rs) s) rs ≡ true
  there h =
      let a = any_some (clashes rs s (of n rs)) (of n rs) h in
      let test = met_on a.at.key (of n rs) in
      let b = any_some (committed_after rs s test) rs (and_right (is_update a.at) (touched rs s test rs) a.passes) in
      let c = b.at in
      let met = test (of c.transaction rs) in
      let lately = and_right (is_commit c) (ltb s c.time && met) b.passes in
      let d = meeting_faces (of n rs) (of c.transaction rs) a.at.key (and_right (ltb s c.time) met lately) in
      let w = d.at in
      let o = of_in c.transaction w rs d.here in
      some_any (meets rs (of n rs) s) w rs o.0
      (and_both (faces (of n rs) w) (any (late s) (of w.transaction rs)) d.passes
      (some_any (late s) c (of w.transaction rs) (in_of w.transaction c rs b.here (turned w.transaction c.transaction o.1))
      (and_both (is_commit c) (ltb s c.time) (and_left (is_commit c) (ltb s c.time && met) b.passes) (and_left (ltb s c.time) met lately))))

  back : any (meets rs (of n rs) s) rs ≡ true → any (clashes rs s (of n rs)) (of n rs) ≡ true
  back h =
      let d = any_some (meets rs (of n rs) s) rs h in
      let w = d.at in
      let b = any_some (late s) (of w.transaction rs) (and_right (faces (of n rs) w) (any (late s) (of w.transaction rs)) d.passes) in
      let c = b.at in
      let o = of_in w.transaction c rs b.here in
      let here = in_of c.transaction w rs d.here (turned c.transaction w.transaction o.1) in
      let a = facing_meets (of n rs) (of c.transaction rs) w here (and_left (faces (of n rs) w) (any (late s) (of w.transaction rs)) d.passes) in
      let test = met_on a.at.key (of n rs) in
      let met = test (of c.transaction rs) in
      some_any (clashes rs s (of n rs)) a.at (of n rs) a.here
      (and_both (is_update a.at) (touched rs s test rs) (and_left (is_update a.at) met a.passes)
      (some_any (committed_after rs s test) c rs o.0
      (and_both (is_commit c) (ltb s c.time && met) (and_left (is_commit c) (ltb s c.time) b.passes)
      (and_both (ltb s c.time) met (and_right (is_commit c) (ltb s c.time) b.passes) (and_right (is_update a.at) met a.passes)))))

  pub meets_conflict : any (meets rs (of n rs) s) rs ≡ conflict n s rs
  meets_conflict = iff (any (meets rs (of n rs) s) rs) (any (clashes rs s (of n rs)) (of n rs)) back there
