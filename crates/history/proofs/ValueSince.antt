-- Values over a base that holds what stood at low: commits at or before low are passed over. So the proof of a
-- checkpoint is two: the base moves and all records stay, then records go. Assumes nothing.
use Rattle.std.specs.Prelude.{◌≡◌, refl, Bool, cond, List, [], ◌∷◌, ℕ, ◌≤◌, max, ltb}
use Rattle.std.proofs.Common.{◌∙◌, arith, ltb-true, ltb-false, le-leb, lt-ltb, le-ltb}
use Rattle.std.proofs.lemmas.Bool.{lt-leb}
use Rattle.rules.specs.declared.Record.{Record}
use Rattle.rules.specs.Value.{Value}
use Rattle.rules.specs.Kinds.{is_commit}
use Rattle.rules.specs.Transactions.{of}
use Rattle.rules.specs.Times.{last}
use Rattle.rules.specs.Values.{settle, value}
use Rattle.rules.specs.Checkpoints.{late, sift}
use Rattle.rules.specs.Bools.{split}
use Rattle.rules.proofs.KeptLaws.{of_kept, raised_effects}
use Rattle.journal.specs.PastLaws.{low_last}
use Rattle.history.proofs.Good.{Good, none, more}
use Rattle.history.proofs.GoodLaws.{commit_begins, last_more}
use Rattle.history.proofs.Kept.{Fitting, fit_none, fit_more}

-- the value of k at t by the commits later than low; start is its value at low
abbrev pub value_since : ℕ → Value → ℕ → ℕ → List Record → Value
value_since low start k t [] = start
value_since low start k t (r ∷ older) = cond (late low r) (settle k t r older (value_since low start k t older)) (value_since low start k t older)

module _ (k t : ℕ) where
  -- where every commit is later than low, it is rule 3.4's value
  pub since_all : (low : ℕ) (v : Value) {rs : List Record} → Good low rs → value_since low v k t rs ≡ value v k t rs
  since_all low v none = refl
  since_all low v (more {r = r} {older = rs} g s) =
      let i = since_all low v g in
      split (is_commit r)
      (λ c. rw (c, lt-ltb low r.time (omega (arith, low_last low rs, (s.settles c).later)), i))
      (λ c. rw (c, i))

  module _ (T : ℕ) where
    -- where no commit is later than T, the value at T stands
    since_none : (low : ℕ) (v : Value) (rs : List Record) → last low rs ≤ T → value_since T v k t rs ≡ v
    since_none low v [] l = refl
    since_none low v (r ∷ rs) l =
        let i = since_none low v rs (omega (arith, last_more low r rs)) in
        split (is_commit r)
        (λ c. let m : max (last low rs) r.time ≤ T = rw c at l in rw (c, le-ltb T r.time (omega arith), i))
        (λ c. rw (c, i))

    -- and it is the value from T on
    since_stands : (from low : ℕ) (v : Value) (rs : List Record) → last low rs ≤ T → T ≤ t → value_since from v k T rs ≡ value_since from v k t rs
    since_stands from low v [] l m = refl
    since_stands from low v (r ∷ rs) l m =
        let i = since_stands from low v rs (omega (arith, last_more low r rs)) m in
        split (is_commit r)
        (λ c.
        let l2 : max (last low rs) r.time ≤ T = rw c at l in
        rw (c, le-leb r.time T (omega arith), le-leb r.time t (omega arith), i))
        (λ c. rw (c, i))

    -- low and base move, the records stay: over the values at T, the commits later than T give the values from T on
    pub since_moved : (low walked : ℕ) (v w : Value) {rs : List Record} → low ≤ T → T ≤ t → Good walked rs → w ≡ value_since low v k T rs
        → value_since T w k t rs ≡ value_since low v k t rs
    since_moved low walked v w l m none e = e
    since_moved low walked v w l m (more {r = r} {older = rs} g s) e =
        split (is_commit r)
        (λ c.
        split (ltb T r.time)
        (λ x.
        let y = ltb-true T r.time x in
        let z = lt-ltb low r.time (omega arith) in
        let e2 : w ≡ value_since low v k T rs = rw (c, z, lt-leb r.time T (omega arith)) at e in
        rw (c, x, z, since_moved low walked v w l m g e2))
        (λ x.
        let y : last walked (r ∷ rs) ≤ T = rw c (omega (arith, ltb-false T r.time x, (s.settles c).later)) in
        since_none walked w (r ∷ rs) y ∙ e ∙ since_stands low walked v (r ∷ rs) y m))
        (λ c. rw (c, since_moved low walked v w l m g (rw c at e)))

    -- records go, low and base stay: the commits later than low are kept
    pub since_sift : (K : ℕ → Bool) (low : ℕ) (v : Value) {rs : List Record} → T ≤ low → Fitting K T rs
        → value_since low v k t (sift K T rs) ≡ value_since low v k t rs
    since_sift K low v l fit_none = refl
    since_sift K low v l (fit_more {r = r} {rs = rs} p f) =
        let n : ℕ = r.transaction in
        let i = since_sift K low v l f in
        split (is_commit r)
        (λ c.
        split (ltb T r.time)
        (λ x. rw (p c, x, c, commit_begins r c, of_kept T K n (p c ∙ x) rs, raised_effects T k (of n rs), i))
        (λ x. let y = ltb-false T r.time x in rw (p c, x, c, le-ltb low r.time (omega arith), i)))
        (λ c. split (K n) (λ x. rw (x, c, i)) (λ x. rw (x, c, i)))
