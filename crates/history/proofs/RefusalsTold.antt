-- The whole journal of lawful deeds refuses what their history refuses. Assumes nothing.
use Rattle.std.specs.Prelude.{◌≡◌, refl, Bool, true, false, not, ◌&&◌, List, [], ◌∷◌, ℕ, eqb, ltb, length}
use Rattle.std.proofs.Common.{sym, ◌∙◌, subst, eqb-true, eq-eqb, ltb-false, le-ltb}
use Rattle.std.proofs.lemmas.Bool.{false≢true}
use Rattle.rules.specs.declared.Record.{Record}
use Rattle.rules.specs.Kinds.{is_assign, is_update, is_commit}
use Rattle.rules.specs.Transactions.{any, of, runs, snapshot, wrote, keys_written}
use Rattle.rules.specs.Lists.{among}
use Rattle.rules.specs.Conflicts.{only_added, met_on, touched, clashes}
use Rattle.rules.specs.Meeting.{ReadsUpdates, test_skip, met_reads}
use Rattle.rules.specs.Checkpoints.{held}
use Rattle.rules.specs.Calls.{Store, last_of, runs_in, snapshot_in, held_in, Begin, Update, Abort, Commit}
use Rattle.rules.specs.Bools.{split, or_right, or_none, or_none_left, or_none_right, not_both}
use Rattle.rules.specs.Running.{touched_open}
use Rattle.history.specs.History.{Change, Runner, History, Deed, Did, Checkpointed, numbers, snapshot_of, changes}
use Rattle.history.specs.Refusals.{any_of, distinct_keys, only_adds, meet, changed_after, conflicts, holds_back, last_in, refusal_in}
use Rattle.history.proofs.Good.{Good, none, more}
use Rattle.history.proofs.GoodLaws.{commit_writes, unended, begun_of}
use Rattle.history.proofs.KeptAlike.{not_held}
use Rattle.history.proofs.RefusedAlike.{hold_none}
use Rattle.history.proofs.Allowed.{refused}
use Rattle.history.proofs.Sound.{Sound, sound_next}
use Rattle.history.proofs.Told.{changes_in, commitments_in, Tells, last_told, runner}

wrote_told : (k : ℕ) (own : List Record) → wrote k own ≡ changes k (changes_in own)
wrote_told k [] = refl
wrote_told k (r ∷ own) = split (is_update r) (λ u. rw (u, wrote_told k own)) (λ u. rw (u, wrote_told k own))

pub keys_told : (own : List Record) → keys_written own ≡ distinct_keys (changes_in own)
keys_told [] = refl
keys_told (r ∷ own) =
    split (is_update r)
    (λ u.
    rw (u, wrote_told r.key own, keys_told own)
    (split (changes r.key (changes_in own)) (λ x. rw x) (λ x. rw x)))
    (λ u. rw (u, keys_told own))

-- who committed after s: nothing is written behind a commit by its transaction
module _ (s : ℕ) (test : List Record → Bool) (reads : ReadsUpdates test) (told : List Change → Bool) (same : (own : List Record) → test own ≡ told (changes_in own)) where
  touched_told : {low : ℕ} {rs : List Record} → Good low rs → touched rs s test rs ≡ changed_after (commitments_in rs) s told
  touched_told none = refl
  touched_told (more {r = r} {older = rs} g st) =
      let i = touched_open r rs s test rs (unended g st) ∙ touched_told g in
      split (is_commit r)
      (λ c. rw (c, test_skip test reads r (commit_writes r c) r.transaction rs, i, same (of r.transaction rs)))
      (λ c. rw (c, i))

-- what a transaction only added to
added_told : (k : ℕ) (own : List Record) → only_added k own ≡ only_adds k (changes_in own)
added_told k [] = refl
added_told k (r ∷ own) =
    split (is_assign r)
    (λ a. split (eqb r.key k) (λ e. rw (a, e)) (λ e. rw (a, e) (added_told k own)))
    (λ a.
    split (is_update r)
    (λ u. split (eqb r.key k) (λ e. rw (u, a, e) (added_told k own)) (λ e. rw (u, a, e) (added_told k own)))
    (λ u. rw (u, a) (added_told k own)))

and_assoc : (a b c : Bool) → (a && (b && c)) ≡ ((a && b) && c)
and_assoc true b c = refl
and_assoc false b c = refl

-- whether two transactions met
met_told : (k : ℕ) (mine own : List Record) → met_on k mine own ≡ meet k (changes_in mine) (changes_in own)
met_told k mine own =
    rw (wrote_told k mine, wrote_told k own, added_told k mine, added_told k own)
    (and_assoc (changes k (changes_in mine)) (changes k (changes_in own)) (not (only_adds k (changes_in mine) && only_adds k (changes_in own))))

conflict_told : (s : ℕ) {low : ℕ} {rs : List Record} → Good low rs → (mine own : List Record)
    → any (clashes rs s mine) own ≡ conflicts (commitments_in rs) s (changes_in mine) (changes_in own)
conflict_told s g mine [] = refl
conflict_told s g mine (r ∷ own) =
    split (is_update r)
    (λ u.
    rw (
      u,
      touched_told s (met_on r.key mine) (met_reads r.key mine) (meet r.key (changes_in mine)) (met_told r.key mine) g,
      conflict_told s g mine own,
    ))
    (λ u. rw (u, conflict_told s g mine own))

-- a test of all numbers of a list
any_none : (p : ℕ → Bool) (ns : List ℕ) → ((n : ℕ) → among n ns ≡ true → p n ≡ false) → any_of p ns ≡ false
any_none p [] h = refl
any_none p (n ∷ ns) h =
    or_none (p n) (any_of p ns) (h n (rw (eq-eqb n n refl))) (any_none p ns (λ m x. h m (or_right (eqb n m) (among m ns) x)))

none_any : (p : ℕ → Bool) (ns : List ℕ) → any_of p ns ≡ false → (n : ℕ) → among n ns ≡ true → p n ≡ false
none_any p [] h n x = absurd (false≢true x)
none_any p (m ∷ ns) h n x =
    split (eqb m n)
    (λ e. subst (λ (i : ℕ). p i ≡ false) (eqb-true m n e) (or_none_left (p m) (any_of p ns) h))
    (λ e. none_any p ns (or_none_right (p m) (any_of p ns) h) n (rw e at x))

pub length_numbers : (rs : List Runner) → length (numbers rs) ≡ length rs
length_numbers [] = refl
length_numbers (r ∷ rs) = rw (length_numbers rs)

module _ (h : History) (s : Store) (w : Sound s) (t : Tells h s) where
  held_told : (T : ℕ) → held_in T s ≡ holds_back T h.runners
  held_told T =
      let b : List Record = s.records in
      let p : ℕ → Bool = λ n. ltb (snapshot_of n h.runners) T in
      split (held T b)
      (λ x.
      split (holds_back T h.runners)
      (λ y. x ∙ sym y)
      (λ y.
      not_both (held T b) x
      (hold_none T b b
      (λ n u.
      let z : ltb (snapshot_of n h.runners) T ≡ false = none_any p (numbers h.runners) y n (runner h s w t n ∙ u) in
      rw (← t.snaps n u) (ltb-false (snapshot_of n h.runners) T z)))))
      (λ x.
      x
      ∙ sym
      (any_none p (numbers h.runners)
      (λ n y.
      let u : runs n b ≡ true = sym (runner h s w t n) ∙ y in
      rw (t.snaps n u) (le-ltb (snapshot n b) T (not_held T n b b (begun_of n b u) x u)))))

  last_same : last_of s ≡ last_in h
  last_same = rw (t.lows, t.commits) (last_told s.low s.records)

  pub refused_told : (d : Deed) → refused d s ≡ refusal_in d h
  refused_told (Did (Begin u)) =
      rw (last_same, ← t.lows, sound_next s w, ← t.nexts, ← t.runs_alike, length_numbers h.runners)
  refused_told (Did (Update n k e)) =
      split (runs_in n s)
      (λ u. rw (runner h s w t n, u, t.own n u, wrote_told k (of n s.records), keys_told (of n s.records)))
      (λ u. rw (runner h s w t n, u))
  refused_told (Did (Abort n)) = rw (runner h s w t n)
  refused_told (Did (Commit n u)) =
      split (runs_in n s)
      (λ x.
      rw (
        runner h s w t n,
        x,
        last_same,
        t.own n x,
        t.snaps n x,
        t.commits,
        conflict_told (snapshot_in n s) w.good (of n s.records) (of n s.records),
      ))
      (λ x. rw (runner h s w t n, x))
  refused_told (Checkpointed u) = rw (last_same, ← t.lows, held_told u)
