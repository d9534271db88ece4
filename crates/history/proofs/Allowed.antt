-- What the rules have tested in a deed that they do not refuse. Assumes nothing.
use Rattle.std.specs.Prelude.{◌≡◌, true, false, cond, not, ℕ, ◌<◌, ◌≤◌, eqb, leb, ltb, length}
use Rattle.std.proofs.Common.{arith, leb-true, leb-false, ltb-false}
use Rattle.std.proofs.lemmas.Bool.{eqb-false, not-false}
use Rattle.rules.specs.Limits.{most_running, numbers_end}
use Rattle.rules.specs.declared.Effect.{Effect}
use Rattle.rules.specs.Calls.{Store, last_of, next_of, running_of, runs_in, held_in, may_write_in, conflict_in, Begin, Update, Abort, Commit, time_refusal, refusal, checkpoint_refusal}
use Rattle.rules.specs.Bools.{split}
use Rattle.rules.specs.Passed.{passed}
use Rattle.history.specs.History.{Deed, Did, Checkpointed}

-- a number that is not 0
pos : (n : ℕ) → eqb n 0 ≡ false → 1 ≤ n
pos n e = split (leb 1 n) (λ l. leb-true 1 n l) (λ l. let z = leb-false 1 n l in absurd (eqb-false n 0 e (omega arith)))

-- section 6 but for shape and room, for every deed
abbrev pub refused : Deed → Store → ℕ
refused (Did c) s = refusal c s
refused (Checkpointed t) s = checkpoint_refusal t s

-- a deed that is not refused, a case for each kind
pub data Allowed (s : Store) : Deed → Type 0 where
  may_begin : (t : ℕ) → s.low ≤ t → t ≤ last_of s → length (running_of s) < most_running → next_of s < numbers_end → Allowed s (Did (Begin t))
  may_update : (n k : ℕ) (e : Effect) → runs_in n s ≡ true → 1 ≤ k → may_write_in n k s ≡ true → Allowed s (Did (Update n k e))
  may_abort : (n : ℕ) → runs_in n s ≡ true → Allowed s (Did (Abort n))
  may_commit : (n t : ℕ) → runs_in n s ≡ true → last_of s < t → conflict_in n s ≡ false → Allowed s (Did (Commit n t))
  may_checkpoint : (t : ℕ) → s.low ≤ t → t ≤ last_of s → held_in t s ≡ false → Allowed s (Checkpointed t)

module _ (s : Store) where
  -- the two tests of a time
  timely_at : (t x : ℕ) → time_refusal t s x ≡ 0 → (s.low ≤ t) × (t ≤ last_of s) × (x ≡ 0)
  timely_at t x e =
      let p = passed (ltb t s.low) 4 (cond (ltb (last_of s) t) 5 x) (omega arith) e in
      let q = passed (ltb (last_of s) t) 5 x (omega arith) p.1 in
      (ltb-false _ _ p.0, ltb-false _ _ q.0, q.1)

  -- what is not refused is allowed
  pub allowed : (d : Deed) → refused d s ≡ 0 → Allowed s d
  allowed (Did (Begin t)) e =
      let p = timely_at t (cond (leb most_running (length (running_of s))) 6 (cond (leb numbers_end (next_of s)) 7 0)) e in
      let u = passed (leb most_running (length (running_of s))) 6 (cond (leb numbers_end (next_of s)) 7 0) (omega arith) p.2 in
      let v = passed (leb numbers_end (next_of s)) 7 0 (omega arith) u.1 in
      may_begin t p.0 p.1 (leb-false _ _ u.0) (leb-false _ _ v.0)
  allowed (Did (Update n k f)) e =
      let p = passed (not (runs_in n s)) 2 (cond (eqb k 0) 3 (cond (not (may_write_in n k s)) 8 0)) (omega arith) e in
      let q = passed (eqb k 0) 3 (cond (not (may_write_in n k s)) 8 0) (omega arith) p.1 in
      let t = passed (not (may_write_in n k s)) 8 0 (omega arith) q.1 in
      may_update n k f (not-false _ p.0) (pos k q.0) (not-false _ t.0)
  allowed (Did (Abort n)) e = may_abort n (not-false _ (passed (not (runs_in n s)) 2 0 (omega arith) e).0)
  allowed (Did (Commit n t)) e =
      let p = passed (not (runs_in n s)) 2 (cond (leb t (last_of s)) 10 (cond (conflict_in n s) 11 0)) (omega arith) e in
      let q = passed (leb t (last_of s)) 10 (cond (conflict_in n s) 11 0) (omega arith) p.1 in
      let u = passed (conflict_in n s) 11 0 (omega arith) q.1 in
      may_commit n t (not-false _ p.0) (leb-false _ _ q.0) u.0
  allowed (Checkpointed t) e =
      let p = timely_at t (cond (held_in t s) 9 0) e in
      may_checkpoint t p.0 p.1 (passed (held_in t s) 9 0 (omega arith) p.2).0
