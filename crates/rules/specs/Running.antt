-- What one record more changes in rule 3.2's readings of a journal: which transactions run, and what they wrote. Assumes nothing.
use Rattle.std.specs.Prelude.{◌≡◌, ℕ, ◌<◌, ◌≤◌, Bool, true, false, not, ◌&&◌, ◌||◌, List, [], ◌∷◌, ◌==◌, nat_eq, nat_le, refl}
use Rattle.std.proofs.Common.{sym, ◌∙◌, eqb-true, eq-eqb, leb-true, leb-false}
use Rattle.std.proofs.lemmas.Bool.{not-true}
use Rattle.rules.specs.declared.Record.{Record}
use Rattle.rules.specs.Bools.{split, and_right, and_false, or_none_left, or_none_right, not_both, iff}
use Rattle.rules.specs.Kinds.{is_begin, is_update, is_commit, is_end}
use Rattle.rules.specs.Transactions.{any, of, still_open, wrote, keys_written, runs, opens, running_in, running, without}
use Rattle.rules.specs.Times.{above}
use Rattle.rules.specs.Lists.{among}
use Rattle.rules.specs.Conflicts.{touched}
use Rattle.rules.specs.Meeting.{ReadsUpdates, test_skip}

eqb_sym : (a b : ℕ) → (a == b) ≡ (b == a)
eqb_sym a b = iff (a == b) (b == a) (λ e. eq-eqb b a (sym (eqb-true a b e))) (λ e. eq-eqb a b (sym (eqb-true b a e)))

-- a running transaction has no end
pub not_ended : (own : List Record) → still_open own ≡ true → any is_end own ≡ false
not_ended own h = not-true (any is_end own) (and_right (any is_begin own) (not (any is_end own)) h)

module _ (r : Record) where
  -- a record that is no end leaves the running ones as they were
  pub running_skip : is_end r ≡ false → (whole rs : List Record) → running_in (r ∷ whole) rs ≡ running_in whole rs
  running_skip h whole [] = refl
  running_skip h whole (x ∷ rs) =
      split (r.transaction == x.transaction)
      (λ e. rw (e, h, running_skip h whole rs))
      (λ e. rw (e, running_skip h whole rs))

  -- an end takes its transaction away
  pub running_end : is_end r ≡ true → (whole rs : List Record) → running_in (r ∷ whole) rs ≡ without r.transaction (running_in whole rs)
  running_end h whole [] = refl
  running_end h whole (x ∷ rs) =
      split (r.transaction == x.transaction)
      (λ e. rw (e, h, and_false, and_false, running_end h whole rs) (split (opens whole x rs) (λ o. rw (o, e)) (λ o. rw o)))
      (λ e. rw (e, running_end h whole rs) (split (opens whole x rs) (λ o. rw (o, e)) (λ o. rw o)))

  pub runs_skip : is_begin r ≡ false → is_end r ≡ false → (m : ℕ) (rs : List Record) → runs m (r ∷ rs) ≡ runs m rs
  runs_skip b e m rs = split (r.transaction == m) (λ q. rw (q, b, e)) (λ q. rw q)

  pub touched_skip : is_update r ≡ false → (whole : List Record) (s : ℕ) (test : List Record → Bool) → ReadsUpdates test → (rs : List Record)
      → touched (r ∷ whole) s test rs ≡ touched whole s test rs
  touched_skip h whole s test reads [] = refl
  touched_skip h whole s test reads (x ∷ rs) = rw (test_skip test reads r h x.transaction whole, touched_skip h whole s test reads rs)

  -- an update of a transaction without an end changes nothing for the commits of others
  pub touched_open : (whole : List Record) (s : ℕ) (test : List Record → Bool) (rs : List Record) → any is_end (of r.transaction rs) ≡ false
      → touched (r ∷ whole) s test rs ≡ touched whole s test rs
  touched_open whole s test [] h = refl
  touched_open whole s test (x ∷ rs) h =
      split (x.transaction == r.transaction)
      (λ e.
      let both : (is_end x || any is_end (of r.transaction rs)) ≡ false = rw e at h in
      let c : is_commit x ≡ false = or_none_left (is_commit x) (x.kind == 5) (or_none_left (is_end x) (any is_end (of r.transaction rs)) both) in
      rw (c, touched_open whole s test rs (or_none_right (is_end x) (any is_end (of r.transaction rs)) both)))
      (λ e.
      let rest : any is_end (of r.transaction rs) ≡ false = rw e at h in
      let other : nat_eq r.transaction x.transaction ≡ false = eqb_sym r.transaction x.transaction ∙ e in
      rw (other, touched_open whole s test rs rest))

-- a transaction without records does not run, so one that runs is below the next number
pub below : (f n : ℕ) (rs : List Record) → ((m : ℕ) → above f rs ≤ m → of m rs ≡ []) → runs n rs ≡ true → n < above f rs
below f n rs h e = split (nat_le (above f rs) n) (λ l. not_both (runs n rs) e (rw (h n (leb-true _ _ l)))) (λ l. leb-false _ _ l)

-- a number runs exactly if it is among the running ones
among_in : (n : ℕ) (whole rs : List Record) → among n (running_in whole rs) ≡ (any is_begin (of n rs) && not (any is_end (of n whole)))
among_in n whole [] = refl
among_in n whole (r ∷ rs) =
    split (r.transaction == n)
    (λ e.
    let q : r.transaction ≡ n = eqb-true r.transaction n e in
    split (is_begin r)
    (λ b.
    split (any is_begin (of n rs))
    (λ f. rw (q, eq-eqb n n refl, b, f) (rw f at (among_in n whole rs)))
    (λ f.
    split (any is_end (of n whole))
    (λ d. rw (q, eq-eqb n n refl, b, f, d) (rw f at (among_in n whole rs)))
    (λ d. rw (q, eq-eqb n n refl, b, f, d, eq-eqb n n refl))))
    (λ b. rw (e, b) (among_in n whole rs)))
    (λ e. split (opens whole r rs) (λ o. rw (o, e) (among_in n whole rs)) (λ o. rw (o, e) (among_in n whole rs)))

pub running_runs : (n : ℕ) (rs : List Record) → among n (running rs) ≡ runs n rs
running_runs n rs = among_in n rs rs

-- a key is among those written exactly if it was written
pub wrote_among : (k : ℕ) (own : List Record) → among k (keys_written own) ≡ wrote k own
wrote_among k [] = refl
wrote_among k (r ∷ own) =
    let i = wrote_among k own in
    split (is_update r)
    (λ u.
    split (wrote r.key own)
    (λ w. rw (u, w) (split (r.key == k) (λ e. rw (e, i, ← eqb-true r.key k e, w)) (λ e. rw (e, i))))
    (λ w. rw (u, w, i)))
    (λ u. rw (u, i))
