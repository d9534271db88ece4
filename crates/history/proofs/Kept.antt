-- Checkpoint and recovery keep whole transactions, and the commits after T: what the rules read in what is kept. Assumes nothing.
use Rattle.std.specs.Prelude.{◌≡◌, refl, Bool, true, false, ◌&&◌, List, [], ◌∷◌, ℕ, ◌≤◌, max, ltb}
use Rattle.std.proofs.Common.{ap, sym, ◌∙◌, arith, le_trans, ltb-true, ltb-false, lt-ltb, le-ltb}
use Rattle.rules.specs.declared.Record.{Record}
use Rattle.rules.specs.Kinds.{is_begin, is_update, is_commit}
use Rattle.rules.specs.Transactions.{any, of, runs, first_begin, snapshot, running, may_write}
use Rattle.rules.specs.Times.{last}
use Rattle.rules.specs.Conflicts.{met_on, committed_after, touched, clashes, conflict}
use Rattle.rules.specs.Meeting.{ReadsUpdates, met_reads, touched_same}
use Rattle.rules.specs.Checkpoints.{raise, sift}
use Rattle.rules.specs.Bools.{split, and_left, and_right, and_both, or_left, or_right, implies_false, and_false}
use Rattle.rules.proofs.KeptLaws.{raised, of_kept, above_sift, kept_fewer, running_sift, raised_begin, raised_end, raised_updates, met_raised, raised_wrote, raised_keys, raised_snapshot}
use Rattle.journal.specs.PastLaws.{low_last}
use Rattle.history.proofs.Good.{Step, Good, none, more}
use Rattle.history.proofs.GoodLaws.{commit_begins, begun_of}

-- the commits kept are those after T
pub data Fitting (K : ℕ → Bool) (T : ℕ) : List Record → Type 0 where
  fit_none : Fitting K T []
  fit_more : {r : Record} {rs : List Record} → (is_commit r ≡ true → K r.transaction ≡ ltb T r.time) → Fitting K T rs → Fitting K T (r ∷ rs)

-- last under a higher low
pub last_low : (low T : ℕ) (rs : List Record) → low ≤ T → last T rs ≡ max T (last low rs)
last_low low T [] l = omega arith
last_low low T (r ∷ rs) l = split (is_commit r) (λ c. rw (c, last_low low T rs l) (omega arith)) (λ c. rw (c, last_low low T rs l))

-- who committed after u committed after an earlier s
touched_later : (whole : List Record) (s u : ℕ) (test : List Record → Bool) (rs : List Record) → s ≤ u → touched whole u test rs ≡ true → touched whole s test rs ≡ true
touched_later whole s u test [] l h = h
touched_later whole s u test (c ∷ rs) l h =
    let passes = test (of c.transaction whole) in
    split (committed_after whole u test c)
    (λ e.
    let d = and_right (is_commit c) (ltb u c.time && passes) e in
    let v = ltb-true u c.time (and_left (ltb u c.time) passes d) in
    or_left (committed_after whole s test c) (touched whole s test rs)
    (and_both (is_commit c) (ltb s c.time && passes) (and_left (is_commit c) (ltb u c.time && passes) e)
    (and_both (ltb s c.time) passes (lt-ltb s c.time (omega arith)) (and_right (ltb u c.time) passes d))))
    (λ e. or_right (committed_after whole s test c) (touched whole s test rs) (touched_later whole s u test rs l (rw e at h)))

module _ (K : ℕ → Bool) (T : ℕ) where
  -- last stays where low is not below T
  pub last_sift : (low : ℕ) {rs : List Record} → T ≤ low → Fitting K T rs → last low (sift K T rs) ≡ last low rs
  last_sift low l fit_none = refl
  last_sift low l (fit_more {r = r} {rs = rs} p f) =
      let i = last_sift low l f in
      split (is_commit r)
      (λ c.
      split (ltb T r.time)
      (λ x. rw (p c, x, c, commit_begins r c, i))
      (λ x. let y = ltb-false T r.time x in rw (p c, x, c, i) (omega (arith, low_last low rs))))
      (λ c. split (K r.transaction) (λ x. rw (x, c, i)) (λ x. rw (x, c, i)))

  -- after T the same transactions committed, with the same updates
  pub touched_sift : (whole : List Record) (s : ℕ) (test : List Record → Bool) → ReadsUpdates test → {rs : List Record} → T ≤ s → Fitting K T rs
      → touched (sift K T whole) s test (sift K T rs) ≡ touched whole s test rs
  touched_sift whole s test q l fit_none = refl
  touched_sift whole s test q l (fit_more {r = c} {rs = rs} p f) =
      let i = touched_sift whole s test q l f in
      let own = of c.transaction whole in
      split (is_commit c)
      (λ x.
      let y : is_begin c ≡ false = commit_begins c x in
      split (ltb T c.time)
      (λ z. rw (p x, z, x, y, of_kept T K c.transaction (p x ∙ z) whole, q (raised T own) own (raised_updates T own), i))
      (λ z. let early = ltb-false T c.time z in rw (p x, z, le-ltb s c.time (omega arith), and_false, i)))
      (λ x. split (K c.transaction) (λ z. rw (z, x, i)) (λ z. rw (z, x, i)))

  -- a raised record that passes a test comes from one that does
  any_raised : (p q : Record → Bool) (own : List Record) → ((r : Record) → q (raise T r) ≡ true → p r ≡ true) → any q (raised T own) ≡ true → any p own ≡ true
  any_raised p q [] h x = x
  any_raised p q (r ∷ own) h x =
      split (q (raise T r))
      (λ e. or_left (p r) (any p own) (h r e))
      (λ e. or_right (p r) (any p own) (any_raised p q own h (rw e at x)))

  -- conflicts only go
  conflict_sift : (n : ℕ) (rs : List Record) → Fitting K T rs → K n ≡ true → any is_begin (of n rs) ≡ true
      → conflict n (snapshot n rs) rs ≡ false → conflict n (snapshot n (sift K T rs)) (sift K T rs) ≡ false
  conflict_sift n rs f h b =
      let u : ℕ = max T (first_begin (of n rs)) in
      let e : snapshot n (sift K T rs) ≡ u = ap first_begin (of_kept T K n h rs) ∙ raised_snapshot T (of n rs) b in
      implies_false (conflict n (snapshot n (sift K T rs)) (sift K T rs)) (conflict n (snapshot n rs) rs)
      (λ x. any_raised (clashes rs (snapshot n rs) (of n rs)) (clashes (sift K T rs) u (raised T (of n rs))) (of n rs) (λ r y.
      let own = of n rs in
      let test = met_on r.key own in
      let late-ones = touched (sift K T rs) u (met_on r.key (raised T own)) (sift K T rs) in
      and_both (is_update r) (touched rs (snapshot n rs) test rs)
      (and_left (is_update r) late-ones y)
      (touched_later rs (snapshot n rs) u test rs (omega arith)
      (sym (touched_sift rs u test (met_reads r.key own) (omega arith) f)
      ∙ sym (touched_same (sift K T rs) u (met_on r.key (raised T own)) test (met_raised T r.key own) (sift K T rs))
      ∙ and_right (is_update r) late-ones y)))
      (rw (e, of_kept T K n h rs) at x))

  -- a kept transaction may write what it could
  room_sift : (n k : ℕ) (rs : List Record) → K n ≡ true → may_write n k rs ≡ true → may_write n k (sift K T rs) ≡ true
  room_sift n k rs h e = rw (of_kept T K n h rs, raised_wrote T k (of n rs), raised_keys T (of n rs)) e

  -- a kept transaction that ran runs
  runs_kept : (n : ℕ) (rs : List Record) → K n ≡ true → runs n rs ≡ true → runs n (sift K T rs) ≡ true
  runs_kept n rs h e = rw (of_kept T K n h rs, raised_begin T (of n rs), raised_end T (of n rs)) e

  -- what the walk found in a kept record it finds in what is kept
  step_sift : {low : ℕ} {rs : List Record} {r : Record} → low ≤ T → Fitting K T (r ∷ rs) → K r.transaction ≡ true → Step low rs r
      → Step T (sift K T rs) (raise T r)
  step_sift {low} {rs} {r} l (fit_more p f) x s =
      record {
        form = split (is_begin r) (λ b. rw b (rw b at s.form)) (λ b. rw b (rw b at s.form));
        opens =
            λ b.
            let o = s.opens b in
            record {
              fresh = le_trans (above_sift T K 1 1 rs (omega arith)) o.fresh;
              ranged = o.ranged;
              from = rw b (omega arith);
              upto = rw (b, last_sift T (omega arith) f, last_low low T rs l) (omega (arith, o.upto));
              few = rw (running_sift T K rs rs) (omega (arith, o.few, kept_fewer T K (running rs)));
            };
        goes_on = λ b. runs_kept r.transaction rs x (s.goes_on b);
        writes = λ u. room_sift r.transaction r.key rs x (s.writes u);
        settles =
            λ c.
            let b = commit_begins r c in
            let y = ltb-true T r.time (sym (p c) ∙ x) in
            record {
              later = rw (b, last_sift T (omega arith) f, last_low low T rs l) (omega (arith, (s.settles c).later));
              clear = conflict_sift r.transaction rs f x (begun_of r.transaction rs (s.goes_on b)) (s.settles c).clear;
            };
      }

  -- what is kept is a good journal over T
  pub good_sift : {low : ℕ} {rs : List Record} → low ≤ T → Good low rs → Fitting K T rs → Good T (sift K T rs)
  good_sift l none fit_none = none
  good_sift l (more {r = r} g s) (fit_more p f) =
      let i = good_sift l g f in
      split (K r.transaction) (λ x. rw x (more i (step_sift l (fit_more p f) x s))) (λ x. rw x i)
