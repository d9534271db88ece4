-- What recovery leaves of any journal: nothing runs in it, recovering it again changes nothing, and where the walk accepts the journal, it has the same
-- last and the same values. Assumes nothing.
use Rattle.std.specs.Prelude.{◌≡◌, refl, Bool, true, false, ◌&&◌, List, [], ◌∷◌, ℕ, ◌≤◌, max, eqb}
use Rattle.std.proofs.Common.{ap, sym, ◌∙◌, arith, eqb-true, ne_eqb}
use Rattle.rules.specs.declared.Record.{Record}
use Rattle.rules.specs.Kinds.{is_begin}
use Rattle.rules.specs.Transactions.{of, runs}
use Rattle.rules.specs.Times.{above, next}
use Rattle.rules.specs.Recovery.{done, only, survivors}
use Rattle.rules.specs.Calls.{Store, next_of}
use Rattle.rules.specs.Bools.{split, not_both, and_false}
use Rattle.history.proofs.Course.{recovered_by, recovered}
use Rattle.history.proofs.RecoveredAlike.{committed_ends}
use Rattle.history.proofs.GoodLaws.{above_least}

module _ (K : ℕ → Bool) where
  -- a kept transaction has its records
  only_kept : (n : ℕ) → K n ≡ true → (rs : List Record) → of n (only K rs) ≡ of n rs
  only_kept n h [] = refl
  only_kept n h (r ∷ rs) =
      split (eqb r.transaction n)
      (λ e. let k : K r.transaction ≡ true = ap K (eqb-true r.transaction n e) ∙ h in rw (k, e, only_kept n h rs))
      (λ e. split (K r.transaction) (λ f. rw (f, e, only_kept n h rs)) (λ f. rw (f, e, only_kept n h rs)))

  -- a dropped one has none
  only_dropped : (n : ℕ) → K n ≡ false → (rs : List Record) → of n (only K rs) ≡ []
  only_dropped n h [] = refl
  only_dropped n h (r ∷ rs) =
      split (K r.transaction)
      (λ f.
      rw (f, ne_eqb r.transaction n (λ q. not_both (K n) (sym (ap K q) ∙ f) h), only_dropped n h rs))
      (λ f. rw (f, only_dropped n h rs))

  -- what is kept runs as before, and nothing else does
  only_runs : (n : ℕ) (rs : List Record) → runs n (only K rs) ≡ (K n && runs n rs)
  only_runs n rs = split (K n) (λ e. rw (e, only_kept n e rs)) (λ e. rw (e, only_dropped n e rs))

  -- what is kept is kept again
  only_again : (J : ℕ → Bool) → ((n : ℕ) → K n ≡ true → J n ≡ true) → (rs : List Record) → only J (only K rs) ≡ only K rs
  only_again J h [] = refl
  only_again J h (r ∷ rs) = split (K r.transaction) (λ e. rw (e, h r.transaction e, only_again J h rs)) (λ e. rw (e, only_again J h rs))

  -- numbers only go
  only_above : (f g : ℕ) (rs : List Record) → above g (only K rs) ≤ max g (above f rs)
  only_above f g [] = omega arith
  only_above f g (r ∷ rs) =
      let i = only_above f g rs in
      split (is_begin r)
      (λ b. split (K r.transaction) (λ e. rw (e, b) (omega arith)) (λ e. rw (e, b) (omega arith)))
      (λ b. split (K r.transaction) (λ e. rw (e, b) i) (λ e. rw (e, b) i))

-- nothing runs where every kept transaction has a commit
pub survivors_none : (rs : List Record) (n : ℕ) → runs n (survivors rs) ≡ false
survivors_none rs n =
    rw (only_runs (done rs) n rs) (split (done rs n) (λ e. rw (e, committed_ends (of n rs) e, and_false)) (λ e. rw e))

-- recovering again changes nothing where what was kept is kept again
pub kept_again : (K J : ℕ → Bool) → ((n : ℕ) → K n ≡ true → J n ≡ true) → (s : Store) → recovered_by J (recovered_by K s) ≡ recovered_by K s
kept_again K J h s =
    let g : ℕ = next_of s in
    let rs : List Record = s.records in
    let i : next g (only K rs) ≡ g = omega (arith, only_above K s.floor g rs, above_least g (only K rs)) in
    rw (only_again K J h rs, i)

-- so it is with the transactions that have a commit
pub recovered_again : (s : Store) → recovered (recovered s) ≡ recovered s
recovered_again s =
    let rs : List Record = s.records in
    kept_again (done rs) (done (survivors rs)) (λ n h. rw (only_kept (done rs) n h rs) h) s
