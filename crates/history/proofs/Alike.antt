-- Two journals that answer alike from low on: a, which checkpoints and recoveries have shortened, and b, which nothing has. They stay alike when the
-- same record is written in both. `fa` and `fb` are the floors, `va` and `vb` the values of the bases. Assumes nothing.
use Rattle.std.specs.Prelude.{◌≡◌, Bool, true, false, List, [], ◌∷◌, ℕ, ◌<◌, ◌≤◌, eqb}
use Rattle.std.proofs.Common.{ap, sym, ◌∙◌, arith, eqb-true, ne_eqb, lt-ltb}
use Rattle.rules.specs.declared.Record.{Record}
use Rattle.rules.specs.Value.{Value}
use Rattle.rules.specs.Kinds.{is_begin, is_commit, is_end}
use Rattle.rules.specs.Transactions.{any, of, runs, running}
use Rattle.rules.specs.Times.{last_step, last, above_step, above}
use Rattle.rules.specs.Values.{value}
use Rattle.rules.specs.Conflicts.{touched}
use Rattle.rules.specs.Meeting.{ReadsUpdates}
use Rattle.rules.specs.Bools.{split}
use Rattle.rules.specs.Running.{not_ended, running_skip, running_end, touched_open, below}
use Rattle.history.proofs.GoodLaws.{above_more}
use Rattle.history.proofs.ValueSince.{value_since}

-- both give the same answers: last, next number, running transactions with their records, values and conflicts; no number from the next one on has a record
pub record Alike (low fa fb : ℕ) (va vb : ℕ → Value) (a b : List Record) : Type 0 where
  pub lasts : last low a ≡ last low b
  pub aboves : above fa a ≡ above fb b
  pub runnings : running a ≡ running b
  pub run : (n : ℕ) → runs n a ≡ runs n b
  pub own : (n : ℕ) → runs n a ≡ true → of n a ≡ of n b
  pub values : (k t : ℕ) → 1 ≤ k → low ≤ t → value_since low (va k) k t a ≡ value (vb k) k t b
  pub touches : (s : ℕ) (test : List Record → Bool) → ReadsUpdates test → low ≤ s → touched a s test a ≡ touched b s test b
  pub fresh_a : (n : ℕ) → above fa a ≤ n → of n a ≡ []
  pub fresh_b : (n : ℕ) → above fb b ≤ n → of n b ≡ []

-- a record that begins a transaction whose number is fresh, or belongs to one that runs, and commits later than low if it commits
module _ (low fa fb : ℕ) (va vb : ℕ → Value) (a b : List Record) (h : Alike low fa fb va vb a b)
    (r : Record) (opens : is_begin r ≡ true → above fa a ≤ r.transaction) (goes_on : is_begin r ≡ false → runs r.transaction a ≡ true)
    (settles : is_commit r ≡ true → low < r.time) where
  -- its transaction has the same records in both
  same : of r.transaction a ≡ of r.transaction b
  same =
      split (is_begin r)
      (λ e. h.fresh_a r.transaction (opens e) ∙ sym (h.fresh_b r.transaction (rw h.aboves at (opens e))))
      (λ e. h.own r.transaction (goes_on e))

  -- and has not ended
  unended : any is_end (of r.transaction a) ≡ false
  unended =
      split (is_begin r) (λ e. rw (h.fresh_a r.transaction (opens e))) (λ e. not_ended (of r.transaction a) (goes_on e))

  -- its number lies below the next one
  number_below : r.transaction < above fa (r ∷ a)
  number_below =
      split (is_begin r)
      (λ e. rw e (omega arith))
      (λ e. rw e (below fa r.transaction a h.fresh_a (goes_on e)))

  -- the next number stays the same in both
  above_same : above fa (r ∷ a) ≡ above fb (r ∷ b)
  above_same = ap (above_step r) h.aboves

  -- written in both, it leaves them alike
  pub alike_step : Alike low fa fb va vb (r ∷ a) (r ∷ b)
  alike_step =
      record {
        lasts = ap (last_step r) h.lasts;
        aboves = above_same;
        runnings =
            split (is_end r)
            (λ e. rw (same, running_end r e a a, running_end r e b b, h.runnings))
            (λ e. rw (same, running_skip r e a a, running_skip r e b b, h.runnings));
        run =
            λ m.
            split (eqb r.transaction m)
            (λ e. let q : of m a ≡ of m b = rw (eqb-true r.transaction m e) at same in rw (e, q))
            (λ e. rw e (h.run m));
        own =
            λ m u.
            split (eqb r.transaction m)
            (λ e. let q : of m a ≡ of m b = rw (eqb-true r.transaction m e) at same in rw (e, q))
            (λ e. rw e (h.own m (rw e at u)));
        values =
            λ k t i l.
            split (is_commit r)
            (λ c. rw (c, lt-ltb low r.time (settles c), same, h.values k t i l))
            (λ c. rw (c, h.values k t i l));
        touches =
            λ s test q l.
            rw (touched_open r a s test a unended, touched_open r b s test b (rw same at unended), h.touches s test q l, same);
        fresh_a =
            λ m l.
            rw (ne_eqb r.transaction m (omega (arith, number_below))) (h.fresh_a m (omega (arith, above_more fa r a)));
        fresh_b =
            λ m l.
            rw (ne_eqb r.transaction m (omega (arith, number_below, above_same))) (h.fresh_b m (omega (arith, above_more fb r b)));
      }
