-- Recovery: what it keeps answers as the history in which the running transactions that it drops were aborted. Assumes nothing.
use Rattle.std.specs.Prelude.{◌≡◌, refl, Bool, true, false, cond, not, List, [], ◌∷◌, ℕ, ◌≤◌, max, eqb}
use Rattle.std.proofs.Common.{ap, ◌∙◌, arith, eq-eqb, ne_eqb}
use Rattle.std.proofs.lemmas.Bool.{false≢true}
use Rattle.rules.specs.declared.Record.{Record}
use Rattle.rules.specs.Value.{Value}
use Rattle.rules.specs.Kinds.{is_begin, is_commit, is_end, aborted}
use Rattle.rules.specs.Transactions.{any, runs}
use Rattle.rules.specs.Times.{last, above}
use Rattle.rules.specs.Lists.{among}
use Rattle.rules.specs.Checkpoints.{sift}
use Rattle.rules.specs.Recovery.{done, only}
use Rattle.rules.specs.Bools.{split, or_right, or_none, not_both, and_false}
use Rattle.history.proofs.Good.{Good, none, more, abort_step}
use Rattle.history.proofs.GoodLaws.{begun_of, snapshot_within}
use Rattle.history.proofs.Alike.{Alike, alike_step}
use Rattle.history.proofs.Kept.{Fitting, fit_more, last_sift, good_sift}
use Rattle.history.proofs.KeptAlike.{ends, fit_done, alike_sift}

-- an abort of each of these numbers that runs
abbrev pub end_all : List ℕ → List Record → List Record
end_all [] rs = rs
end_all (n ∷ ns) rs = end_all ns (cond (runs n rs) (aborted n ∷ rs) rs)

-- what runs behind an abort ran before it, and is another
run_before : (n m : ℕ) (rs : List Record) → runs m (aborted n ∷ rs) ≡ true → (runs m rs ≡ true) × (eqb n m ≡ false)
run_before n m rs u =
    split (eqb n m)
    (λ x. not_both false (rw (x, and_false) at u) refl)
    (λ x. (rw x at u, x))

-- what runs behind the aborts ran before and is not among them
end_runs : (m : ℕ) (ns : List ℕ) (rs : List Record) → runs m (end_all ns rs) ≡ true → (runs m rs ≡ true) × (among m ns ≡ false)
end_runs m [] rs u = (u, refl)
end_runs m (n ∷ ns) rs u =
    split (runs n rs)
    (λ x.
    let i = end_runs m ns (aborted n ∷ rs) (rw x at u) in
    let j = run_before n m rs i.0 in
    (j.0, or_none (eqb n m) (among m ns) j.1 i.1))
    (λ x.
    let i = end_runs m ns rs (rw x at u) in
    (i.0, or_none (eqb n m) (among m ns) (ne_eqb n m (λ e. not_both (runs m rs) i.0 (rw (← e) x))) i.1))

-- the records of the kept, with or without aborts of others
only_end : (K : ℕ → Bool) (ns : List ℕ) (rs : List Record) → ((n : ℕ) → among n ns ≡ true → runs n rs ≡ true → K n ≡ false)
    → only K (end_all ns rs) ≡ only K rs
only_end K [] rs h = refl
only_end K (n ∷ ns) rs h =
    split (runs n rs)
    (λ x.
    let i = only_end K ns (aborted n ∷ rs) (λ m y u. h m (or_right (eqb n m) (among m ns) y) (run_before n m rs u).0) in
    rw (x, i, h n (rw (eq-eqb n n refl)) x))
    (λ x. rw (x, only_end K ns rs (λ m y. h m (or_right (eqb n m) (among m ns) y))))

-- at low no begin is raised
sift_low : (K : ℕ → Bool) {low : ℕ} {rs : List Record} → Good low rs → sift K low rs ≡ only K rs
sift_low K none = refl
sift_low K {low} (more {r = r} g s) =
    let i = sift_low K g in
    split (is_begin r)
    (λ b. let z : max low r.time ≡ r.time = omega (arith, (s.opens b).from) in rw (i, b, z))
    (λ b. rw (i, b))

-- the next number
above_end : (f : ℕ) (ns : List ℕ) (rs : List Record) → above f (end_all ns rs) ≡ above f rs
above_end f [] rs = refl
above_end f (n ∷ ns) rs = split (runs n rs) (λ x. rw (x, above_end f ns (aborted n ∷ rs))) (λ x. rw (x, above_end f ns rs))

-- which commits are kept
fit_end : (K : ℕ → Bool) (T : ℕ) (ns : List ℕ) (rs : List Record) → Fitting K T rs → Fitting K T (end_all ns rs)
fit_end K T [] rs f = f
fit_end K T (n ∷ ns) rs f =
    split (runs n rs) (λ x. rw x (fit_end K T ns (aborted n ∷ rs) (fit_more (λ y. absurd (false≢true y)) f))) (λ x. rw x (fit_end K T ns rs f))

-- the aborts are steps
good_end : {low : ℕ} (ns : List ℕ) {rs : List Record} → Good low rs → Good low (end_all ns rs)
good_end [] g = g
good_end (n ∷ ns) {rs} g = split (runs n rs) (λ x. rw x (good_end ns (more g (abort_step n x)))) (λ x. rw x (good_end ns g))

-- the aborts in both journals
alike_end : (low fa fb : ℕ) (va vb : ℕ → Value) (ns : List ℕ) (a b : List Record) → Alike low fa fb va vb a b
    → Alike low fa fb va vb (end_all ns a) (end_all ns b)
alike_end low fa fb va vb [] a b h = h
alike_end low fa fb va vb (n ∷ ns) a b h =
    split (runs n a)
    (λ x.
    let i = alike_step low fa fb va vb a b h (aborted n) (λ e. absurd (false≢true e)) (λ e. x) (λ e. absurd (false≢true e)) in
    rw (x, ← h.run n, x) (alike_end low fa fb va vb ns (aborted n ∷ a) (aborted n ∷ b) i))
    (λ x. rw (x, ← h.run n, x) (alike_end low fa fb va vb ns a b h))

-- a committed transaction has an end
pub committed_ends : (own : List Record) → any is_commit own ≡ true → any is_end own ≡ true
committed_ends [] h = h
committed_ends (r ∷ own) h =
    split (is_commit r) (λ c. rw c) (λ c. or_right (is_end r) (any is_end own) (committed_ends own (rw c at h)))

-- what recovery keeps, whichever transactions those are, if every one with a commit is among them
module _ (K : ℕ → Bool) {walked : ℕ} {a : List Record} (keeps : (n : ℕ) → done a n ≡ true → K n ≡ true) (g : Good walked a) where
  -- the commits kept are those after the walk's low: all of them
  fit : Fitting K walked a
  fit = fit_done walked K a keeps (ends walked walked g)

  -- it is a good journal
  pub good_recover : Good walked (only K a)
  good_recover = rw (sift_low K g) at (good_sift K walked (omega arith) g fit)

  -- last stays
  pub last_recover : last walked (only K a) ≡ last walked a
  last_recover = rw (← sift_low K g) (last_sift K walked walked (omega arith) fit)

  -- it answers as the whole journal with the aborts, where of the running ones those are kept that are not aborted
  pub alike_recover : (low fa fb : ℕ) (va vb : ℕ → Value) (b : List Record) → walked ≤ low → Alike low fa fb va vb a b
      → (ns : List ℕ) → ((n : ℕ) → runs n a ≡ true → K n ≡ not (among n ns)) → Alike low (above fa a) fb va vb (only K a) (end_all ns b)
  alike_recover low fa fb va vb b l h ns choice =
      let a' : List Record = end_all ns a in
      let g' : Good walked a' = good_end ns g in
      let e : sift K walked a' ≡ only K a = sift_low K g' ∙ only_end K ns a (λ n x u. choice n u ∙ ap not x) in
      rw (above_end fa ns a, e) at
      (alike_sift walked low fa fb va vb a' (end_all ns b) (alike_end low fa fb va vb ns a b h) g' K walked l (fit_end K walked ns a fit)
      (λ n u. let i = end_runs n ns a u in choice n i.0 ∙ ap not i.1) (λ n u. (snapshot_within g' n (begun_of n a' u)).0))
