-- Checkpoint and recovery keep whole transactions: two stores that answer alike go on to. Assumes nothing.
use Rattle.std.specs.Prelude.{◌≡◌, refl, Bool, true, false, List, [], ◌∷◌, ℕ, ◌<◌, ◌≤◌, max, eqb, ltb}
use Rattle.std.proofs.Common.{◌∙◌, arith, eqb-true, eq-eqb, ltb-false, lt-ltb}
use Rattle.std.proofs.lemmas.Bool.{false≢true}
use Rattle.rules.specs.declared.Record.{Record}
use Rattle.rules.specs.Value.{Value}
use Rattle.rules.specs.Kinds.{is_begin, is_commit, is_end}
use Rattle.rules.specs.Transactions.{any, of, runs, snapshot}
use Rattle.rules.specs.Times.{above}
use Rattle.rules.specs.Checkpoints.{held_by, held, late, stays, sift, kept}
use Rattle.rules.specs.Recovery.{done}
use Rattle.rules.specs.Bools.{split, or_left, or_none_left, or_none_right, not_both, and_false, or_false}
use Rattle.journal.specs.PastLaws.{low_last}
use Rattle.history.proofs.Good.{Good, none, more}
use Rattle.history.proofs.GoodLaws.{good_known, fresh, unended, begun_of}
use Rattle.history.proofs.Alike.{Alike}
use Rattle.rules.proofs.KeptLaws.{raised, of_kept, above_onto, running_sift, kept_all, runs_sift, of_none}
use Rattle.history.proofs.Kept.{Fitting, fit_none, fit_more, last_low, last_sift, touched_sift, good_sift}
use Rattle.history.proofs.ValueSince.{value_since, since_moved, since_sift}

-- a commit is the only end of its transaction
pub record Ending (low T : ℕ) (whole : List Record) (c : Record) : Type 0 where
  pub ended : any is_end (of c.transaction whole) ≡ true
  pub settled : any is_commit (of c.transaction whole) ≡ true
  pub lates : any (late T) (of c.transaction whole) ≡ ltb T c.time
  pub above_low : low < c.time

-- every commit of these records is such an end
pub data Ends (low T : ℕ) (whole : List Record) : List Record → Type 0 where
  e_none : Ends low T whole []
  e_more : {c : Record} {rs : List Record} → (is_commit c ≡ true → Ending low T whole c) → Ends low T whole rs → Ends low T whole (c ∷ rs)

-- a transaction without an end has no late commit
not_late : (T : ℕ) (own : List Record) → any is_end own ≡ false → any (late T) own ≡ false
not_late T [] h = refl
not_late T (r ∷ own) h =
    let c : is_commit r ≡ false = or_none_left (is_commit r) (eqb r.kind 5) (or_none_left (is_end r) (any is_end own) h) in
    rw (c, not_late T own (or_none_right (is_end r) (any is_end own) h))

module _ (low T : ℕ) where
  -- a record of a transaction without an end changes nothing for the commits of others
  ends_more : (r : Record) (whole : List Record) → any is_end (of r.transaction whole) ≡ false → {rs : List Record}
      → Ends low T whole rs → Ends low T (r ∷ whole) rs
  ends_more r whole h e_none = e_none
  ends_more r whole h (e_more {c = c} p e) =
      e_more {c = c}
      (λ x.
      let q = p x in
      let d : eqb r.transaction c.transaction ≡ false =
      split (eqb r.transaction c.transaction) (λ y. not_both (any is_end (of r.transaction whole))
      (rw (eqb-true r.transaction c.transaction y) q.ended) h) (λ y. y)
      in
      record { ended = rw d q.ended; settled = rw d q.settled; lates = rw d q.lates; above_low = q.above_low })
      (ends_more r whole h e)

  -- a commit of a good journal is the only end of its transaction
  pub ends : {rs : List Record} → Good low rs → Ends low T rs rs
  ends none = e_none
  ends (more {r = r} {older = rs} g s) =
      let o = unended g s in
      let q = eq-eqb r.transaction r.transaction refl in
      e_more {c = r}
      (λ c.
      record {
        ended = rw (q, c);
        settled = rw (q, c);
        lates = rw (q, c, not_late T (of r.transaction rs) o, or_false (ltb T r.time));
        above_low = omega (arith, low_last low rs, (s.settles c).later);
      })
      (ends_more r rs o (ends g))

  -- a checkpoint keeps a commit exactly if it is later than T
  fit_stays : (whole : List Record) {rs : List Record} → Ends low T whole rs → Fitting (stays T whole) T rs
  fit_stays whole e_none = fit_none
  fit_stays whole (e_more {c = c} p e) = fit_more {r = c} (λ x. rw ((p x).ended, and_false) (p x).lates) (fit_stays whole e)

-- a choice that has every transaction with a commit keeps every commit
pub fit_done : (low : ℕ) (K : ℕ → Bool) (whole : List Record) → ((n : ℕ) → done whole n ≡ true → K n ≡ true) → {rs : List Record} → Ends low low whole rs
    → Fitting K low rs
fit_done low K whole keeps e_none = fit_none
fit_done low K whole keeps (e_more {c = c} p e) =
    fit_more {r = c} (λ x. rw (keeps c.transaction (p x).settled, lt-ltb low c.time (p x).above_low)) (fit_done low K whole keeps e)

-- the snapshots that T does not pass stay
raised_not : (T n : ℕ) {low : ℕ} {rs : List Record} → Good low rs → T ≤ snapshot n rs → raised T (of n rs) ≡ of n rs
raised_not T n none l = refl
raised_not T n (more {r = r} {older = rs} g s) l =
    split (eqb r.transaction n)
    (λ x.
    split (is_begin r)
    (λ b.
    let f : of n rs ≡ [] = rw (eqb-true r.transaction n x) at (fresh g r.transaction (s.opens b).fresh) in
    let z : max T r.time ≡ r.time = let l2 : T ≤ r.time = rw (x, b, f) at l in omega arith in
    rw (x, b, f, z))
    (λ b. rw (x, b, raised_not T n g (rw (x, b) at l))))
    (λ x. rw x (raised_not T n g (rw x at l)))

-- T is not above the snapshot of a running transaction
pub not_held : (T n : ℕ) (whole rs : List Record) → any is_begin (of n rs) ≡ true → any (held_by T whole) rs ≡ false → runs n whole ≡ true → T ≤ snapshot n whole
not_held T n whole [] b h u = absurd (false≢true b)
not_held T n whole (r ∷ rs) b h u =
    let h1 = or_none_left (held_by T whole r) (any (held_by T whole) rs) h in
    let h2 = or_none_right (held_by T whole r) (any (held_by T whole) rs) h in
    split (eqb r.transaction n)
    (λ x.
    split (is_begin r)
    (λ y. ltb-false (snapshot n whole) T (rw (y, eqb-true r.transaction n x, u) at h1))
    (λ y. not_held T n whole rs (rw (x, y) at b) h2 u))
    (λ x. not_held T n whole rs (rw x at b) h2 u)

-- the journal is good for a low of its own, which the answers' low has left behind or not
module _ (walked low fa fb : ℕ) (va vb : ℕ → Value) (a b : List Record) (h : Alike low fa fb va vb a b) (g : Good walked a) where
  -- low and base move, the records stay: it answers as before from T on
  pub alike_moved : (T : ℕ) (vc : ℕ → Value) → low ≤ T → ((k : ℕ) → 1 ≤ k → vc k ≡ value_since low (va k) k T a) → Alike T fa fb vc vb a b
  alike_moved T vc l vals =
      record {
        lasts = rw (last_low low T a l, last_low low T b l, h.lasts);
        aboves = h.aboves;
        runnings = h.runnings;
        run = h.run;
        own = h.own;
        values = λ k t i j. since_moved k t T low walked (va k) (vc k) l j g (vals k i) ∙ h.values k t i (omega arith);
        touches = λ s test q j. h.touches s test q (omega arith);
        fresh_a = h.fresh_a;
        fresh_b = h.fresh_b;
      }

  -- records go, low and base stay: for any choice of kept transactions that fits some T up to low, what is kept answers as before
  pub alike_sift : (K : ℕ → Bool) (T : ℕ) → T ≤ low → Fitting K T a → ((n : ℕ) → runs n a ≡ true → K n ≡ true)
      → ((n : ℕ) → runs n a ≡ true → T ≤ snapshot n a) → Alike low (above fa a) fb va vb (sift K T a) b
  alike_sift K T l f keeps below =
      record {
        lasts = last_sift K T low l f ∙ h.lasts;
        aboves = above_onto T K fa (above fa a) a (omega arith) ∙ h.aboves;
        runnings = running_sift T K a a ∙ kept_all T K a a (λ n x. x) keeps ∙ h.runnings;
        run = λ n. runs_sift T K n a (keeps n) ∙ h.run n;
        own =
            λ n u.
            let v : runs n a ≡ true = rw (runs_sift T K n a (keeps n)) at u in
            of_kept T K n (keeps n v) a ∙ raised_not T n g (below n v) ∙ h.own n v;
        values = λ k t i j. since_sift k t T K low (va k) l f ∙ h.values k t i j;
        touches = λ s test q j. touched_sift K T a s test q (omega arith) f ∙ h.touches s test q j;
        fresh_a = λ n i. of_none T K n a (h.fresh_a n (rw (above_onto T K fa (above fa a) a (omega arith)) at i));
        fresh_b = h.fresh_b;
      }

-- what a checkpoint at low keeps answers as before
pub alike_kept : (walked low fa fb : ℕ) (va vb : ℕ → Value) (a b : List Record) → Alike low fa fb va vb a b → Good walked a → held low a ≡ false
    → Alike low (above fa a) fb va vb (kept low a) b
alike_kept walked low fa fb va vb a b h g n =
    rw (good_known g)
    (alike_sift walked low fa fb va vb a b h g (stays low a) low (omega arith) (fit_stays walked low a (ends walked low g))
    (λ i u. or_left (runs i a) (any (late low) (of i a)) u) (λ i u. not_held low i a a (begun_of i a u) n u))

-- a checkpoint at T is both at once
pub alike_checkpoint : (low fa fb : ℕ) (va vb : ℕ → Value) (a b : List Record) → Alike low fa fb va vb a b → Good low a
    → (T : ℕ) (vc : ℕ → Value) → low ≤ T → held T a ≡ false → ((k : ℕ) → 1 ≤ k → vc k ≡ value_since low (va k) k T a)
    → Alike T (above fa a) fb vc vb (kept T a) b
alike_checkpoint low fa fb va vb a b h g T vc l n vals =
    alike_kept low T fa fb vc vb a b (alike_moved low low fa fb va vb a b h g T vc l vals) g n

-- what a checkpoint keeps is a good journal
pub good_checkpoint : {low : ℕ} {a : List Record} → Good low a → (T : ℕ) → low ≤ T → Good T (kept T a)
good_checkpoint {low} {a} g T l = rw (good_known g) (good_sift (stays T a) T l g (fit_stays low T a (ends low T g)))
