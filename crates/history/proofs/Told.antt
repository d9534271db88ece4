-- A history tells what a journal says: the same committed transactions with the same changes, the same running ones, the same values; and one deed
-- more leaves it so. Assumes nothing.
use Rattle.std.specs.Prelude.{◌≡◌, refl, true, false, cond, List, [], ◌∷◌, ℕ, eqb, None}
use Rattle.std.proofs.Common.{sym, ◌∙◌, subst, arith, eqb-true, eq-eqb}
use Rattle.std.proofs.lemmas.Bool.{false≢true}
use Rattle.rules.specs.declared.Record.{Record}
use Rattle.rules.specs.Value.{Value}
use Rattle.rules.specs.Kinds.{is_begin, is_update, is_commit, is_end, begun, committed, aborted}
use Rattle.rules.specs.Effects.{effect_of, effects}
use Rattle.rules.specs.Transactions.{of, runs, snapshot, running, without}
use Rattle.rules.specs.Times.{last, above}
use Rattle.rules.specs.Values.{value}
use Rattle.rules.specs.Lists.{among}
use Rattle.rules.specs.Calls.{Store, running_of, runs_in, snapshot_in, updated, Begin, push}
use Rattle.rules.specs.Bools.{split, not_both, and_false}
use Rattle.rules.specs.Running.{running_skip, running_end, runs_skip, running_runs}
use Rattle.history.specs.History.{Change, Commitment, Runner, History, Deed, Did, numbers, changes_of, snapshot_of, changed, ended, recalled, with_deed, making, value_in, latest}
use Rattle.history.proofs.GoodLaws.{fresh}
use Rattle.history.proofs.Replayed.{replayed}
use Rattle.history.proofs.Allowed.{Allowed, may_begin, may_update, may_abort, may_commit, may_checkpoint}
use Rattle.history.proofs.Written.{writing}
use Rattle.history.proofs.Sound.{Sound, sound_next}

-- an update record as a change
abbrev change_of : Record → Change
change_of r = record { key = r.key; effect = effect_of r }

-- the changes of a transaction, by its own records
abbrev pub changes_in : List Record → List Change
changes_in [] = []
changes_in (r ∷ own) = cond (is_update r) (change_of r ∷ changes_in own) (changes_in own)

-- the committed transactions of a journal
abbrev pub commitments_in : List Record → List Commitment
commitments_in [] = []
commitments_in (r ∷ older) =
    cond (is_commit r) (record { time = r.time; changes = changes_in (of r.transaction older) } ∷ commitments_in older) (commitments_in older)

-- a history says what a journal says
pub record Tells (h : History) (s : Store) : Type 0 where
  pub lows : h.low ≡ s.low
  pub nexts : h.next ≡ above 1 s.records
  pub commits : h.commitments ≡ commitments_in s.records
  pub runs_alike : numbers h.runners ≡ running_of s
  pub own : (n : ℕ) → runs_in n s ≡ true → changes_of n h.runners ≡ changes_in (of n s.records)
  pub snaps : (n : ℕ) → runs_in n s ≡ true → snapshot_of n h.runners ≡ snapshot_in n s

-- values and last, read in a journal and in its committed transactions
pub making_effects : (k : ℕ) (own : List Record) (v : Value) → effects k own v ≡ making k (changes_in own) v
making_effects k [] v = refl
making_effects k (r ∷ own) v =
    split (is_update r)
    (λ u. split (eqb r.key k) (λ e. rw (u, e, making_effects k own v)) (λ e. rw (u, e, making_effects k own v)))
    (λ u. rw (u, making_effects k own v))

-- the value of a key
pub value_told : (k t : ℕ) (rs : List Record) → value None k t rs ≡ value_in (commitments_in rs) t k
value_told k t [] = refl
value_told k t (r ∷ rs) =
    split (is_commit r)
    (λ c. rw (c, value_told k t rs, making_effects k (of r.transaction rs) (value_in (commitments_in rs) t k)))
    (λ c. rw (c, value_told k t rs))

-- last
pub last_told : (low : ℕ) (rs : List Record) → last low rs ≡ latest low (commitments_in rs)
last_told low [] = refl
last_told low (r ∷ rs) = split (is_commit r) (λ c. rw (c, last_told low rs)) (λ c. rw (c, last_told low rs))

-- one change more, and one runner less
module _ (n : ℕ) (c : Change) where
  changed_numbers : (rs : List Runner) → numbers (changed n c rs) ≡ numbers rs
  changed_numbers [] = refl
  changed_numbers (r ∷ rs) = split (eqb r.number n) (λ e. rw e) (λ e. rw (e, changed_numbers rs))

  changed_snapshot : (m : ℕ) (rs : List Runner) → snapshot_of m (changed n c rs) ≡ snapshot_of m rs
  changed_snapshot m [] = refl
  changed_snapshot m (r ∷ rs) = split (eqb r.number n) (λ e. rw e) (λ e. rw (e, changed_snapshot m rs))

  pub changed_own : (rs : List Runner) → among n (numbers rs) ≡ true → changes_of n (changed n c rs) ≡ c ∷ changes_of n rs
  changed_own [] h = absurd (false≢true h)
  changed_own (r ∷ rs) h = split (eqb r.number n) (λ e. rw (e, e)) (λ e. rw (e, e, changed_own rs (rw e at h)))

  changed_other : (m : ℕ) → eqb n m ≡ false → (rs : List Runner) → changes_of m (changed n c rs) ≡ changes_of m rs
  changed_other m h [] = refl
  changed_other m h (r ∷ rs) =
      split (eqb r.number n)
      (λ e. let q : eqb r.number m ≡ false = rw (eqb-true r.number n e) h in rw (e, q))
      (λ e. rw (e, changed_other m h rs))

module _ (n : ℕ) where
  ended_numbers : (rs : List Runner) → numbers (ended n rs) ≡ without n (numbers rs)
  ended_numbers [] = refl
  ended_numbers (r ∷ rs) = split (eqb n r.number) (λ e. rw (e, ended_numbers rs)) (λ e. rw (e, ended_numbers rs))

  pub ended_among : (m : ℕ) → eqb n m ≡ false → (rs : List Runner) → among m (numbers (ended n rs)) ≡ among m (numbers rs)
  ended_among m h [] = refl
  ended_among m h (r ∷ rs) =
      split (eqb n r.number)
      (λ e. let q : eqb r.number m ≡ false = rw (← eqb-true n r.number e) h in rw (e, q, ended_among m h rs))
      (λ e. rw (e, ended_among m h rs))

  pub ended_changes : (m : ℕ) → eqb n m ≡ false → (rs : List Runner) → changes_of m (ended n rs) ≡ changes_of m rs
  ended_changes m h [] = refl
  ended_changes m h (r ∷ rs) =
      split (eqb n r.number)
      (λ e. let q : eqb r.number m ≡ false = rw (← eqb-true n r.number e) h in rw (e, q, ended_changes m h rs))
      (λ e. rw (e, ended_changes m h rs))

  pub ended_snapshot : (m : ℕ) → eqb n m ≡ false → (rs : List Runner) → snapshot_of m (ended n rs) ≡ snapshot_of m rs
  ended_snapshot m h [] = refl
  ended_snapshot m h (r ∷ rs) =
      split (eqb n r.number)
      (λ e. let q : eqb r.number m ≡ false = rw (← eqb-true n r.number e) h in rw (e, q, ended_snapshot m h rs))
      (λ e. rw (e, ended_snapshot m h rs))

module _ (h : History) (s : Store) (w : Sound s) (t : Tells h s) where
  -- a transaction runs in the history exactly if it runs in the journal
  pub runner : (n : ℕ) → among n (numbers h.runners) ≡ runs_in n s
  runner n = rw t.runs_alike (running_runs n s.records)

  -- begin
  tells_begin : (u : ℕ) → Tells (recalled (Begin u) h) (replayed (Did (Begin u)) s)
  tells_begin u =
      let n : ℕ = above 1 s.records in
      let f : of n s.records ≡ [] = fresh w.good n (omega arith) in
      let e : h.next ≡ n = t.nexts in
      rw (sound_next s w)
      (record {
        lows = t.lows;
        nexts = rw e (omega arith);
        commits = t.commits;
        runs_alike = rw (eq-eqb n n refl, f, running_skip (begun n u) refl s.records s.records, e, t.runs_alike);
        own =
            λ m.
            rw e
            (split (eqb n m)
            (λ x. let z : of m s.records ≡ [] = rw (eqb-true n m x) at f in rw (x, z) (λ r. refl))
            (λ x. rw x (t.own m)));
        snaps =
            λ m.
            rw e
            (split (eqb n m)
            (λ x. let z : of m s.records ≡ [] = rw (eqb-true n m x) at f in rw (x, z) (λ r. refl))
            (λ x. rw x (t.snaps m)));
      })

  -- update
  tells_update : (r : Record) → is_update r ≡ true → is_begin r ≡ false → is_commit r ≡ false → is_end r ≡ false → runs_in r.transaction s ≡ true
      → Tells
      (record {
        low = h.low;
        next = h.next;
        commitments = h.commitments;
        runners = changed r.transaction (change_of r) h.runners;
      })
      (push r s)
  tells_update r u b c e p =
      let n : ℕ = r.transaction in
      record {
        lows = t.lows;
        nexts = rw b t.nexts;
        commits = rw c t.commits;
        runs_alike = rw (changed_numbers n (change_of r) h.runners, b, running_skip r e s.records s.records) t.runs_alike;
        own =
            λ m q.
            let q2 : runs_in m s ≡ true = sym (runs_skip r b e m s.records) ∙ q in
            split (eqb n m)
            (λ x.
            let y : n ≡ m = eqb-true n m x in
            let z : changes_of m (changed n (change_of r) h.runners) ≡ change_of r ∷ changes_of m h.runners =
            subst (λ (i : ℕ). changes_of i (changed n (change_of r) h.runners) ≡ change_of r ∷ changes_of i h.runners) y
            (changed_own n (change_of r) h.runners (runner n ∙ p))
            in
            rw (z, x, u, t.own m q2))
            (λ x. rw (changed_other n (change_of r) m x h.runners, x, t.own m q2));
        snaps =
            λ m q.
            let q2 : runs_in m s ≡ true = sym (runs_skip r b e m s.records) ∙ q in
            rw (changed_snapshot n (change_of r) m h.runners)
            (split (eqb n m) (λ x. rw (x, b, t.snaps m q2)) (λ x. rw (x, t.snaps m q2)));
      }

  -- what an end leaves
  module _ (r : Record) (b : is_begin r ≡ false) (e : is_end r ≡ true) where
    others : (m : ℕ) → runs m (r ∷ s.records) ≡ true → (runs_in m s ≡ true) × (eqb r.transaction m ≡ false)
    others m q =
        split (eqb r.transaction m) (λ x. not_both false (rw (x, b, e, and_false) at q) refl) (λ x. (rw x at q, x))

    end_own : (m : ℕ) → runs m (r ∷ s.records) ≡ true → changes_of m (ended r.transaction h.runners) ≡ changes_in (of m (r ∷ s.records))
    end_own m q =
        let o = others m q in
        rw (ended_changes r.transaction m o.1 h.runners, o.1, t.own m o.0)

    end_snaps : (m : ℕ) → runs m (r ∷ s.records) ≡ true → snapshot_of m (ended r.transaction h.runners) ≡ snapshot m (r ∷ s.records)
    end_snaps m q =
        let o = others m q in
        rw (ended_snapshot r.transaction m o.1 h.runners, o.1, t.snaps m o.0)

    end_runs : numbers (ended r.transaction h.runners) ≡ running (r ∷ s.records)
    end_runs = rw (ended_numbers r.transaction h.runners, b, running_end r e s.records s.records, t.runs_alike)

    -- an end; what is committed then is given
    tells_end : (cs : List Commitment) → cs ≡ commitments_in (r ∷ s.records)
        → Tells (record { low = h.low; next = h.next; commitments = cs; runners = ended r.transaction h.runners }) (push r s)
    tells_end cs q =
        record {
          lows = t.lows;
          nexts = rw b t.nexts;
          commits = q;
          runs_alike = end_runs;
          own = end_own;
          snaps = end_snaps;
        }

  -- one deed more
  pub tells_deed : {d : Deed} → Allowed s d → Tells (with_deed d h) (replayed d s)
  tells_deed (may_begin u p q x y) = tells_begin u
  tells_deed (may_update n k e p q x) =
      let w = writing n k e in
      rw (w.number, w.key, w.effect) at
      (tells_update (updated n k e) w.updates w.begins w.commits w.ends (rw w.number p))
  tells_deed (may_abort n p) = tells_end (aborted n) refl refl _ t.commits
  tells_deed (may_commit n u p q x) = tells_end (committed n u) refl refl _ (rw (t.own n p, t.commits))
  tells_deed (may_checkpoint u p q x) =
      record { lows = refl; nexts = t.nexts; commits = t.commits; runs_alike = t.runs_alike; own = t.own; snaps = t.snaps }
