-- Rule 3.11: an accepted call leaves a free record for each running transaction, where there was one before it. Assumes nothing.
use Rattle.std.specs.Prelude.{◌≡◌, ℕ, suc, ◌+◌, ◌≤◌, true, false, cond, not, ◌&&◌, List, [], ◌∷◌, length, ◌==◌, nat_eq, refl}
use Rattle.std.proofs.Common.{sym, arith, eqb-true, eq-eqb, ne_eqb}
use Rattle.std.proofs.lemmas.Bool.{false≢true, eqb-false, not-true, not-false}
use Rattle.rules.specs.declared.Record.{Record}
use Rattle.rules.specs.declared.Effect.TheVariants.{Assign, Add}
use Rattle.rules.specs.Kinds.{is_begin, is_end, begun, assigned, added, committed, aborted}
use Rattle.rules.specs.Transactions.{any, of, runs, opens, running_in, running, without}
use Rattle.rules.specs.Calls.{Store, next_of, Call, Begin, Update, Abort, Commit, record_of, refusal, need, answer, push, running_of}
use Rattle.rules.specs.Bools.{split, and_left, and_right, not_both, implies_false, or_false}
use Rattle.rules.specs.Running.{not_ended, running_skip, running_end}
use Rattle.rules.specs.Passed.{passed, fitting}
use Rattle.rules.proofs.KeptLaws.{any_more}

module _ (n : ℕ) (whole : List Record) where
  -- a number that did not begin is not taken away
  without_none : (rs : List Record) → any is_begin (of n rs) ≡ false → without n (running_in whole rs) ≡ running_in whole rs
  without_none [] h = refl
  without_none (r ∷ rs) h =
      let i = without_none rs (implies_false (any is_begin (of n rs)) (any is_begin (of n (r ∷ rs))) (any_more is_begin n r rs) h) in
      split (opens whole r rs)
      (λ o.
      let b = and_left (is_begin r) (not (any is_begin (of r.transaction rs)) && not (any is_end (of r.transaction whole))) o in
      split (n == r.transaction)
      (λ x. let y = eq-eqb r.transaction n (sym (eqb-true n r.transaction x)) in not_both (any is_begin (of n (r ∷ rs))) (rw (y, b)) h)
      (λ x. rw (o, x, i)))
      (λ o. rw (o, i))

  -- an end takes one number away
  fewer_in : (rs : List Record) → any is_begin (of n rs) ≡ true → any is_end (of n whole) ≡ false
      → suc (length (without n (running_in whole rs))) ≡ length (running_in whole rs)
  fewer_in [] b e = absurd (false≢true b)
  fewer_in (r ∷ rs) b e =
      split (opens whole r rs)
      (λ o.
      split (n == r.transaction)
      (λ x.
      let q : not (any is_begin (of r.transaction rs)) ≡ true =
      and_left (not (any is_begin (of r.transaction rs))) (not (any is_end (of r.transaction whole)))
      (and_right (is_begin r) (not (any is_begin (of r.transaction rs)) && not (any is_end (of r.transaction whole))) o)
      in
      let z : any is_begin (of n rs) ≡ false = not-true (any is_begin (of n rs)) (rw (← eqb-true n r.transaction x) at q) in
      rw (o, x, without_none rs z))
      (λ x.
      let y : nat_eq r.transaction n ≡ false = ne_eqb r.transaction n (λ z. eqb-false n r.transaction x (sym z)) in
      rw (o, x, fewer_in rs (rw y at b) e)))
      (λ o.
      split (any is_begin (of n rs))
      (λ z. rw o (fewer_in rs z e))
      (λ z.
      split (r.transaction == n)
      (λ x.
      let y : is_begin r ≡ true = rw (x, z, or_false (is_begin r)) at b in
      not_both (opens whole r rs) (rw (y, eqb-true r.transaction n x, z, e)) o)
      (λ x. not_both (any is_begin (of n rs)) (rw x at b) z)))

-- one number less runs behind an end of n
pub fewer : (n : ℕ) (rs : List Record) → runs n rs ≡ true → suc (length (without n (running rs))) ≡ length (running rs)
fewer n rs u = fewer_in n rs rs (and_left (any is_begin (of n rs)) (not (any is_end (of n rs))) u) (not_ended (of n rs) u)

-- a begin adds one at most
running_begun : (n s : ℕ) (rs : List Record) → length (running (begun n s ∷ rs)) ≤ suc (length (running rs))
running_begun n s rs =
    rw (running_skip (begun n s) refl rs rs) (split (opens (begun n s ∷ rs) (begun n s) rs) (λ o. rw o (omega arith)) (λ o. rw o (omega arith)))

-- a free record for each running transaction
abbrev pub Roomy : ℕ → Store → Type 0
Roomy room s = length s.records + length (running_of s) ≤ room

-- a transaction that is not unknown runs
known_runs : (n : ℕ) (rs : List Record) (others : ℕ) → cond (not (runs n rs)) 2 others ≡ 0 → runs n rs ≡ true
known_runs n rs others e = not-false (runs n rs) (passed (not (runs n rs)) 2 others (omega arith) e).0

module _ (room : ℕ) (s : Store) (k : Roomy room s) where
  room_kept : (c : Call) → refusal c s ≡ 0 → length s.records + need c s ≤ room → Roomy room (push (record_of c s) s)
  room_kept (Begin t) e i = omega (arith, running_begun (next_of s) t s.records)
  room_kept (Update n j (Assign v)) e i = rw (running_skip (assigned n j v) refl s.records s.records) (omega arith)
  room_kept (Update n j (Add v)) e i = rw (running_skip (added n j v) refl s.records s.records) (omega arith)
  room_kept (Abort n) e i = rw (running_end (aborted n) refl s.records s.records) (omega (arith, fewer n s.records (known_runs n s.records _ e)))
  room_kept (Commit n t) e i = rw (running_end (committed n t) refl s.records s.records) (omega (arith, fewer n s.records (known_runs n s.records _ e)))

  -- so a running transaction can be ended after any accepted call
  pub room_for_each : (c : Call) → answer room c s ≡ 0 → Roomy room (push (record_of c s) s)
  room_for_each c e =
      let ok = fitting (refusal c s) (length s.records + need c s) room e in
      room_kept c ok.0 ok.1
