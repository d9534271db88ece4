-- Whole transactions are kept: what the rules read in the records of those that a checkpoint or a recovery keeps. `K` says which numbers are kept, and
-- begins are raised to T. Assumes nothing.
use Rattle.std.specs.Prelude.{◌≡◌, ℕ, suc, ◌≤◌, max, Bool, true, false, cond, not, ◌&&◌, ◌||◌, List, [], ◌∷◌, length, ◌==◌, refl}
use Rattle.std.proofs.Common.{ap, sym, ◌∙◌, arith, eqb-true, eq-eqb}
use Rattle.std.proofs.lemmas.Bool.{false≢true}
use Rattle.rules.specs.declared.Record.{Record}
use Rattle.rules.specs.Value.{Value}
use Rattle.rules.specs.Kinds.{is_begin, is_update, is_end}
use Rattle.rules.specs.Effects.{effects}
use Rattle.rules.specs.Transactions.{any, of, still_open, runs, first_begin, wrote, keys_written, opens, running_in}
use Rattle.rules.specs.Times.{above}
use Rattle.rules.specs.Conflicts.{met_on}
use Rattle.rules.specs.Meeting.{updates_of, met_own_reads}
use Rattle.rules.specs.Checkpoints.{raise, sift}
use Rattle.rules.specs.Bools.{split, and_left, and_right, and_both, or_left, or_right, or_none, not_both, implies_false, and_false}

-- records with their begins raised to T
abbrev pub raised : ℕ → List Record → List Record
raised T [] = []
raised T (r ∷ rs) = raise T r ∷ raised T rs

-- what some record of n passes, some record of n in a longer journal passes
pub any_more : (p : Record → Bool) (n : ℕ) (r : Record) (rs : List Record) → any p (of n rs) ≡ true → any p (of n (r ∷ rs)) ≡ true
any_more p n r rs h = split (r.transaction == n) (λ e. rw e (or_right (p r) (any p (of n rs)) h)) (λ e. rw e h)

-- a raised begin changes nothing but its time
module _ (T : ℕ) where
  pub raised_begin : (own : List Record) → any is_begin (raised T own) ≡ any is_begin own
  raised_begin [] = refl
  raised_begin (r ∷ own) = rw (raised_begin own)

  pub raised_end : (own : List Record) → any is_end (raised T own) ≡ any is_end own
  raised_end [] = refl
  raised_end (r ∷ own) = rw (raised_end own)

  -- an update is no begin, and stays as it is
  raise_update : (r : Record) → is_update r ≡ true → raise T r ≡ r
  raise_update r u =
      split (is_begin r)
      (λ b. absurd (false≢true (rw (eqb-true r.kind 1 b) at u)))
      (λ b. rw b)

  pub raised_updates : (own : List Record) → updates_of (raised T own) ≡ updates_of own
  raised_updates [] = refl
  raised_updates (r ∷ own) = split (is_update r) (λ u. rw (u, raise_update r u, raised_updates own)) (λ u. rw (u, raised_updates own))

  -- raised begins change nothing in whom a transaction met
  pub met_raised : (k : ℕ) (own other : List Record) → met_on k (raised T own) other ≡ met_on k own other
  met_raised k own other = met_own_reads k other (raised T own) own (raised_updates own)

  pub raised_wrote : (k : ℕ) (own : List Record) → wrote k (raised T own) ≡ wrote k own
  raised_wrote k [] = refl
  raised_wrote k (r ∷ own) = rw (raised_wrote k own)

  pub raised_keys : (own : List Record) → keys_written (raised T own) ≡ keys_written own
  raised_keys [] = refl
  raised_keys (r ∷ own) = rw (raised_keys own, raised_wrote r.key own)

  pub raised_effects : (k : ℕ) (own : List Record) (v : Value) → effects k (raised T own) v ≡ effects k own v
  raised_effects k [] v = refl
  raised_effects k (r ∷ own) v = rw (raised_effects k own v)

  pub raised_open : (own : List Record) → still_open (raised T own) ≡ still_open own
  raised_open own = rw (raised_begin own, raised_end own)

  pub raised_snapshot : (own : List Record) → any is_begin own ≡ true → first_begin (raised T own) ≡ max T (first_begin own)
  raised_snapshot [] h = not_both false h refl
  raised_snapshot (r ∷ own) h =
      split (any is_begin own)
      (λ e. rw (raised_begin own, e, and_false, raised_snapshot own e))
      (λ e. split (is_begin r) (λ f. rw (raised_begin own, e, f)) (λ f. not_both (is_begin r || any is_begin own) h (or_none (is_begin r) (any is_begin own) f e)))

  module _ (K : ℕ → Bool) where
    -- a kept transaction has its records, raised
    pub of_kept : (n : ℕ) → K n ≡ true → (rs : List Record) → of n (sift K T rs) ≡ raised T (of n rs)
    of_kept n h [] = refl
    of_kept n h (r ∷ rs) =
        split (r.transaction == n)
        (λ e. let k : K r.transaction ≡ true = ap K (eqb-true r.transaction n e) ∙ h in rw (k, e, of_kept n h rs))
        (λ e. split (K r.transaction) (λ f. rw (f, e, of_kept n h rs)) (λ f. rw (f, e, of_kept n h rs)))

    -- a dropped one has none
    pub of_dropped : (n : ℕ) → K n ≡ false → (rs : List Record) → of n (sift K T rs) ≡ []
    of_dropped n h [] = refl
    of_dropped n h (r ∷ rs) =
        split (r.transaction == n)
        (λ e. let k : K r.transaction ≡ false = ap K (eqb-true r.transaction n e) ∙ h in rw (k, of_dropped n h rs))
        (λ e. split (K r.transaction) (λ f. rw (f, e, of_dropped n h rs)) (λ f. rw (f, of_dropped n h rs)))

    -- numbers only go
    pub above_sift : (f g : ℕ) (rs : List Record) → f ≤ g → above f (sift K T rs) ≤ above g rs
    above_sift f g [] l = l
    above_sift f g (r ∷ rs) l =
        let i = above_sift f g rs l in
        split (is_begin r)
        (λ b. split (K r.transaction) (λ e. rw (e, b) (omega arith)) (λ e. rw (e, b) (omega arith)))
        (λ b. split (K r.transaction) (λ e. rw (e, b) i) (λ e. rw (e, b) i))

    -- the next number stays where it is made the floor
    pub above_onto : (f g : ℕ) (rs : List Record) → above f rs ≤ g → above g (sift K T rs) ≡ g
    above_onto f g [] l = refl
    above_onto f g (r ∷ rs) l =
        split (is_begin r)
        (λ b.
        let l2 : max (above f rs) (suc r.transaction) ≤ g = rw b at l in
        let i = above_onto f g rs (omega arith) in
        split (K r.transaction) (λ e. rw (e, b, i) (omega arith)) (λ e. rw (e, i)))
        (λ b.
        let l2 : above f rs ≤ g = rw b at l in
        let i = above_onto f g rs l2 in
        split (K r.transaction) (λ e. rw (e, b, i)) (λ e. rw (e, i)))

    -- the numbers kept
    abbrev pub numbers_kept : List ℕ → List ℕ
    numbers_kept [] = []
    numbers_kept (n ∷ ns) = cond (K n) (n ∷ numbers_kept ns) (numbers_kept ns)

    -- no more numbers than there were
    pub kept_fewer : (ns : List ℕ) → length (numbers_kept ns) ≤ length ns
    kept_fewer [] = omega arith
    kept_fewer (n ∷ ns) = let i = kept_fewer ns in split (K n) (λ e. rw e (omega arith)) (λ e. rw e (omega arith))

    -- the running ones that are kept run on
    pub running_sift : (whole rs : List Record) → running_in (sift K T whole) (sift K T rs) ≡ numbers_kept (running_in whole rs)
    running_sift whole [] = refl
    running_sift whole (r ∷ rs) =
        split (K r.transaction)
        (λ e.
        rw (
          e,
          of_kept r.transaction e rs,
          of_kept r.transaction e whole,
          raised_begin (of r.transaction rs),
          raised_end (of r.transaction whole),
          running_sift whole rs,
        )
        (split (opens whole r rs) (λ o. rw (o, e)) (λ o. rw o)))
        (λ e. rw (e, running_sift whole rs) (split (opens whole r rs) (λ o. rw (o, e)) (λ o. rw o)))

    -- where every running one is kept, all run on
    pub kept_all : (whole rs : List Record) → ((n : ℕ) → any is_begin (of n rs) ≡ true → any is_begin (of n whole) ≡ true)
        → ((n : ℕ) → runs n whole ≡ true → K n ≡ true)
        → numbers_kept (running_in whole rs) ≡ running_in whole rs
    kept_all whole [] sub h = refl
    kept_all whole (r ∷ rs) sub h =
        let i = kept_all whole rs (λ n x. sub n (any_more is_begin n r rs x)) h in
        split (opens whole r rs)
        (λ o.
        let b : is_begin r ≡ true = and_left (is_begin r) (not (any is_begin (of r.transaction rs)) && not (any is_end (of r.transaction whole))) o in
        let e : not (any is_end (of r.transaction whole)) ≡ true =
        and_right (not (any is_begin (of r.transaction rs))) (not (any is_end (of r.transaction whole)))
        (and_right (is_begin r) (not (any is_begin (of r.transaction rs)) && not (any is_end (of r.transaction whole))) o)
        in
        let u : runs r.transaction whole ≡ true =
        and_both (any is_begin (of r.transaction whole)) (not (any is_end (of r.transaction whole)))
        (sub r.transaction (rw (eq-eqb r.transaction r.transaction refl) (or_left (is_begin r) (any is_begin (of r.transaction rs)) b))) e
        in
        rw (o, h r.transaction u, i))
        (λ o. rw (o, i))

    -- where a running transaction is kept, it runs exactly if it ran
    pub runs_sift : (n : ℕ) (rs : List Record) → (runs n rs ≡ true → K n ≡ true) → runs n (sift K T rs) ≡ runs n rs
    runs_sift n rs h =
        split (K n)
        (λ e. rw (of_kept n e rs) (raised_open (of n rs)))
        (λ e. rw (of_dropped n e rs) (sym (implies_false (runs n rs) (K n) h e)))

    -- a number without records gets none
    pub of_none : (n : ℕ) (rs : List Record) → of n rs ≡ [] → of n (sift K T rs) ≡ []
    of_none n rs h = split (K n) (λ e. rw (of_kept n e rs, h)) (λ e. of_dropped n e rs)
