-- What a store and its history refuse alike. Assumes nothing.
use Rattle.std.specs.Prelude.{◌≡◌, refl, Bool, true, false, List, [], ◌∷◌, ℕ, ◌≤◌}
use Rattle.std.proofs.Common.{sym, ◌∙◌, le-ltb}
use Rattle.rules.specs.declared.Record.{Record}
use Rattle.rules.specs.Value.{Value}
use Rattle.rules.specs.Kinds.{is_begin}
use Rattle.rules.specs.Transactions.{any, of, runs, first_begin, snapshot}
use Rattle.rules.specs.Conflicts.{met_on, clashes, conflict}
use Rattle.rules.specs.Meeting.{met_reads}
use Rattle.rules.specs.Checkpoints.{held_by, held}
use Rattle.rules.specs.Bools.{split, not_both}
use Rattle.history.proofs.GoodLaws.{begun_of}
use Rattle.history.proofs.Alike.{Alike}
use Rattle.history.proofs.KeptAlike.{not_held}

-- two tests that agree
any_cong : (p q : Record → Bool) (rs : List Record) → ((r : Record) → p r ≡ q r) → any p rs ≡ any q rs
any_cong p q [] h = refl
any_cong p q (r ∷ rs) h = rw (h r, any_cong p q rs h)

-- T is held by none where no running snapshot lies below it
pub hold_none : (T : ℕ) (whole rs : List Record) → ((n : ℕ) → runs n whole ≡ true → T ≤ snapshot n whole) → any (held_by T whole) rs ≡ false
hold_none T whole [] h = refl
hold_none T whole (r ∷ rs) h =
    rw (hold_none T whole rs h)
    (split (runs r.transaction whole)
    (λ x. split (is_begin r) (λ y. rw (x, y, le-ltb (snapshot r.transaction whole) T (h r.transaction x))) (λ y. rw y))
    (λ x. split (is_begin r) (λ y. rw (x, y)) (λ y. rw y)))

module _ (low f fb : ℕ) (va vb : ℕ → Value) (a b : List Record) (h : Alike low f fb va vb a b) where
  -- a commit whose snapshot is not below low conflicts in both or in none
  pub conflict_same : (n : ℕ) → runs n a ≡ true → low ≤ snapshot n a → conflict n (snapshot n a) a ≡ conflict n (snapshot n b) b
  conflict_same n u from =
      let o : of n a ≡ of n b = h.own n u in
      let s = first_begin (of n b) in
      let l : low ≤ s = rw o at from in
      rw o (any_cong (clashes a s (of n b)) (clashes b s (of n b)) (of n b) (λ r. rw (h.touches s (met_on r.key (of n b)) (met_reads r.key (of n b)) l)))

  -- T is held in both or in none
  pub held_same : (T : ℕ) → held T a ≡ held T b
  held_same T =
      split (held T a)
      (λ x.
      split (held T b)
      (λ y. x ∙ sym y)
      (λ y. not_both (held T a) x (hold_none T a a (λ n u. let v = sym (h.run n) ∙ u in rw (h.own n u) (not_held T n b b (begun_of n b v) y v)))))
      (λ x.
      rw (x, hold_none T b b (λ n v. let u = h.run n ∙ v in rw (← h.own n u) (not_held T n a a (begun_of n a u) x u))))
