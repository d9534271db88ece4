-- The walk's tests and its facts say the same. Assumes nothing.
use Rattle.std.specs.Prelude.{◌≡◌, refl, Bool, true, ◌&&◌, List, [], ◌∷◌, ℕ, ◌-◌, leb, length}
use Rattle.std.proofs.Common.{leb-true, ltb-true, le-leb, lt-ltb}
use Rattle.std.proofs.lemmas.Bool.{not-true}
use Rattle.rules.specs.Limits.{most_running, numbers_end}
use Rattle.rules.specs.declared.Record.{Record}
use Rattle.rules.specs.Kinds.{is_begin, is_update, is_commit}
use Rattle.rules.specs.Transactions.{snapshot, running}
use Rattle.rules.specs.Times.{last, above}
use Rattle.rules.specs.Conflicts.{conflict}
use Rattle.rules.specs.Recovery.{formed, numbered, timely, limited, clear, judge, accepts}
use Rattle.rules.specs.Bools.{split, and_left, and_right}
use Rattle.history.proofs.Good.{Step, Good, none, more}
use Rattle.history.proofs.GoodLaws.{commit_begins, update_begins}

-- the two halves of a test
both : (a b : Bool) → (a && b) ≡ true → (a ≡ true) × (b ≡ true)
both a b e = (and_left a b e, and_right a b e)

module _ (low : ℕ) (older : List Record) (r : Record) where
  -- a step passes the tests
  step_judge : Step low older r → judge low older r ≡ true
  step_judge s =
      let n : numbered older r ≡ true = split (is_begin r)
      (λ b. let o = s.opens b in rw (b, le-leb (above 1 older) r.transaction o.fresh, le-leb r.transaction (numbers_end - 1) o.ranged))
      (λ b. rw b (s.goes_on b)) in
      let t : timely low older r ≡ true = split (is_begin r)
      (λ b. let o = s.opens b in rw (b, le-leb low r.time o.from, le-leb r.time (last low older) o.upto))
      (λ b. split (is_commit r) (λ c. rw (b, c) (lt-ltb (last low older) r.time (s.settles c).later)) (λ c. rw (b, c))) in
      let l : limited older r ≡ true = split (is_begin r)
      (λ b. rw b (lt-ltb (length (running older)) most_running (s.opens b).few))
      (λ b. split (is_update r) (λ u. rw (b, u) (s.writes u)) (λ u. rw (b, u))) in
      let c : clear older r ≡ true = split (is_commit r) (λ c. rw (c, (s.settles c).clear)) (λ c. rw c) in
      rw (s.form, n, t, l, c)

  -- what passes the tests is a step
  judge_step : judge low older r ≡ true → Step low older r
  judge_step j =
      let f = both (formed r) (numbered older r && (timely low older r && (limited older r && clear older r))) j in
      let n = both (numbered older r) (timely low older r && (limited older r && clear older r)) f.1 in
      let t = both (timely low older r) (limited older r && clear older r) n.1 in
      let l = both (limited older r) (clear older r) t.1 in
      record {
        form = f.0;
        opens =
            λ b.
            let n1 = both (leb (above 1 older) r.transaction) (leb r.transaction (numbers_end - 1)) (rw b at n.0) in
            let t1 = both (leb low r.time) (leb r.time (last low older)) (rw b at t.0) in
            record {
              fresh = leb-true _ _ n1.0;
              ranged = leb-true _ _ n1.1;
              from = leb-true _ _ t1.0;
              upto = leb-true _ _ t1.1;
              few = ltb-true (length (running older)) most_running (rw b at l.0);
            };
        goes_on = λ b. rw b at n.0;
        writes = λ u. rw (update_begins r u, u) at l.0;
        settles =
            λ c.
            record {
              later = ltb-true (last low older) r.time (rw (commit_begins r c, c) at t.0);
              clear = not-true (conflict r.transaction (snapshot r.transaction older) older) (rw c at l.1);
            };
      }

-- the walk accepts a good journal
pub good_accepts : {low : ℕ} {rs : List Record} → Good low rs → accepts low rs ≡ true
good_accepts none = refl
good_accepts {low} (more {r = r} {older = rs} g s) = rw (step_judge low rs r s, good_accepts g)

-- a journal that the walk accepts is good
pub accepts_good : (low : ℕ) (rs : List Record) → accepts low rs ≡ true → Good low rs
accepts_good low [] h = none
accepts_good low (r ∷ rs) h = let a = both (judge low rs r) (accepts low rs) h in more (accepts_good low rs a.1) (judge_step low rs r a.0)
