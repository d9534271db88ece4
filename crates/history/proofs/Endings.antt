-- ENDING IS POSSIBLE. Rule 3.11 on the cells that the contracts speak of: where every call that writes a record is lent a journal of the same length,
-- a running transaction can always be ended by abort, and abort and commit never get 12. Assumes nothing.
use Rattle.std.specs.Prelude.{◌≡◌, true, List, ◌≢◌, ℕ, ◌+◌, ◌≤◌, eqb, leb, length, None}
use Rattle.std.proofs.Common.{ap, sym, ◌∙◌, arith, eqb-true, le-leb}
use Rattle.rules.specs.Bools.{split}
use Rattle.rules.specs.Lists.{among}
use Rattle.rules.specs.Running.{running_runs}
use Rattle.rules.proofs.RoomLaws.{fewer}
use Rattle.rules.specs.Calls.{Store, last_of, runs_in, conflict_in, Call, Abort, Commit, refusal, answer}
use Rattle.answer.specs.Reply.{Reply, accepted, told}
use Rattle.journal_store.specs.declared.Head.{Head}
use Rattle.journal_store.specs.Shape.{room_of}
use Rattle.journal_store.specs.CallContracts.{number, Wrote}
use Rattle.history.specs.History.{Deed, numbers, history}
use Rattle.history.specs.Cells.{Cells, meaning_of, end, Lent, Reached}
use Rattle.history.proofs.Meant.{meant}
use Rattle.history.proofs.Lent.{lent_passes, lent_meaning}
use Rattle.history.proofs.Demands.{running_is}

-- none of a commit's other tests gives 12
commit_not_12 : (n t : ℕ) (s : Store) → refusal (Commit n t) s ≢ 12
commit_not_12 n t s e =
    split (runs_in n s)
    (λ u. split (leb t (last_of s))
    (λ v. let z : ◌≡◌ {A = ℕ} 10 12 = rw (u, v) at e in absurd (omega arith))
    (λ v. split (conflict_in n s)
    (λ w. let z : ◌≡◌ {A = ℕ} 11 12 = rw (u, v, w) at e in absurd (omega arith))
    (λ w. let z : ◌≡◌ {A = ℕ} 0 12 = rw (u, v, w) at e in absurd (omega arith))))
    (λ u. let z : ◌≡◌ {A = ℕ} 2 12 = rw u at e in absurd (omega arith))

module _ (bytes : ℕ) {ds : List Deed} {since : ℕ} {x : Cells} (r : Reached (λ n. n ≡ bytes) ds since x) (keys values journal : List ℕ)
    (l : Lent x (end x) keys values journal) (same : length journal ≡ bytes) where
  -- the number on the cells is the one on their meaning
  meant_number : (c : Call) → number c x.head keys values journal ≡ answer (room_of bytes) c (meaning_of x)
  meant_number c =
      rw (lent_passes r keys values journal l)
      (ap (answer (room_of (length journal)) c) (lent_meaning r keys values journal l) ∙ ap (λ (i : ℕ). answer (room_of i) c (meaning_of x)) same)

  -- a running transaction has a free record
  one_free : (n : ℕ) → runs_in n (meaning_of x) ≡ true → length (meaning_of x).records + 1 ≤ room_of bytes
  one_free n u = omega (arith, (meant r).steady bytes (λ i e. e), fewer n (meaning_of x).records u)

  aborts : (n : ℕ) → runs_in n (meaning_of x) ≡ true → answer (room_of bytes) (Abort n) (meaning_of x) ≡ 0
  aborts n u = rw (u, le-leb (length (meaning_of x).records + 1) (room_of bytes) (one_free n u))

  commits : (n t : ℕ) → runs_in n (meaning_of x) ≡ true → answer (room_of bytes) (Commit n t) (meaning_of x) ≡ refusal (Commit n t) (meaning_of x)
  commits n t u =
      let number_is : ℕ = refusal (Commit n t) (meaning_of x) in
      split (eqb number_is 0)
      (λ e. rw (e, le-leb (length (meaning_of x).records + 1) (room_of bytes) (one_free n u)) (sym (eqb-true number_is 0 e)))
      (λ e. rw e)

  -- Abort of a running transaction is accepted.
  pub ending_is_possible : (n : ℕ) → among n (numbers (history ds).runners) ≡ true → (a : Reply) (head : Head) (journal' : List ℕ)
      → Wrote (Abort n) x.head keys values journal a head journal' → a ≡ accepted None
  ending_is_possible n u a head journal' w =
      w.reply
      ∙ ap (λ (i : ℕ). told i None) (meant_number (Abort n) ∙ aborts n (sym (running_runs n (meaning_of x).records) ∙ rw (running_is r) u))

  -- Abort and commit never get 12.
  pub abort_never_12 : (n : ℕ) (a : Reply) (head : Head) (journal' : List ℕ) → Wrote (Abort n) x.head keys values journal a head journal' → a.number ≢ 12
  abort_never_12 n a head journal' w e =
      let f : answer (room_of bytes) (Abort n) (meaning_of x) ≡ 12 = sym (meant_number (Abort n)) ∙ sym (ap (λ (q : Reply). q.number) w.reply) ∙ e in
      split (runs_in n (meaning_of x))
      (λ u. let z : ◌≡◌ {A = ℕ} 0 12 = sym (aborts n u) ∙ f in absurd (omega arith))
      (λ u. let z : ◌≡◌ {A = ℕ} 2 12 = rw u at f in absurd (omega arith))

  pub commit_never_12 : (n t : ℕ) (a : Reply) (head : Head) (journal' : List ℕ) → Wrote (Commit n t) x.head keys values journal a head journal'
      → a.number ≢ 12
  commit_never_12 n t a head journal' w e =
      let f : answer (room_of bytes) (Commit n t) (meaning_of x) ≡ 12 = sym (meant_number (Commit n t)) ∙ sym (ap (λ (q : Reply). q.number) w.reply) ∙ e in
      split (runs_in n (meaning_of x))
      (λ u. commit_not_12 n t (meaning_of x) (sym (commits n t u) ∙ f))
      (λ u. let z : ◌≡◌ {A = ℕ} 2 12 = rw u at f in absurd (omega arith))
