-- Nobody conflicts with a snapshot that no commit is later than. Assumes nothing.
use Rattle.std.specs.Prelude.{◌≡◌, refl, Bool, false, List, [], ◌∷◌, ℕ, ◌≤◌}
use Rattle.std.proofs.Common.{le-ltb}
use Rattle.rules.specs.declared.Record.{Record}
use Rattle.rules.specs.Bools.{split}
use Rattle.rules.specs.Kinds.{is_update, is_commit}
use Rattle.rules.specs.Transactions.{any, of}
use Rattle.rules.specs.Conflicts.{met_on, touched, clashes, conflict}
use Rattle.journal.specs.Past.{Past, none, more}
use Rattle.journal.specs.PastLaws.{later}

module _ (whole : List Record) (s : ℕ) (test : List Record → Bool) where
  -- no commit is after s
  untouched : {rs : List Record} → Past s rs → touched whole s test rs ≡ false
  untouched none = refl
  untouched (more r rs c p) =
      split (is_commit r)
      (λ e. rw (e, le-ltb s r.time (c e)) (untouched p))
      (λ e. rw e (untouched p))

-- so nothing clashes
no_clash : (s : ℕ) (rs own xs : List Record) → Past s rs → any (clashes rs s own) xs ≡ false
no_clash s rs own [] p = refl
no_clash s rs own (x ∷ xs) p =
    rw (untouched rs s (met_on x.key own) p) (split (is_update x) (λ e. rw e (no_clash s rs own xs p)) (λ e. rw e (no_clash s rs own xs p)))

pub no_conflict_since : (l s n : ℕ) (rs : List Record) → l ≤ s → Past l rs → conflict n s rs ≡ false
no_conflict_since l s n rs h p = no_clash s rs (of n rs) (of n rs) (later h p)
