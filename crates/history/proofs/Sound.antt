-- What deeds that the rules do not refuse make of the whole journal: a good one. Assumes nothing.
use Rattle.std.specs.Prelude.{◌≡◌, true, [], ℕ, ◌≤◌, eqb}
use Rattle.std.proofs.Common.{sym, arith, eqb-true}
use Rattle.rules.specs.declared.Record.{Record}
use Rattle.rules.specs.Kinds.{is_begin}
use Rattle.rules.specs.Transactions.{of}
use Rattle.rules.specs.Times.{last, above}
use Rattle.rules.specs.Calls.{Store, last_of, next_of, runs_in, snapshot_in, record_of, push}
use Rattle.rules.specs.Bools.{split}
use Rattle.history.specs.History.{Deed, Did, Checkpointed}
use Rattle.history.proofs.Good.{Step, Good, more}
use Rattle.history.proofs.GoodLaws.{above_top, fresh, begun_of, last_more, step_lower}
use Rattle.history.proofs.Kept.{last_low}
use Rattle.history.proofs.KeptAlike.{not_held}
use Rattle.history.proofs.Replayed.{replayed}
use Rattle.history.proofs.Allowed.{Allowed, may_checkpoint}
use Rattle.history.proofs.Written.{call_step}

-- what such deeds make of the whole journal
pub record Sound (h : Store) : Type 0 where
  pub good : Good 0 h.records
  pub within : h.low ≤ last 0 h.records
  pub from : (n : ℕ) → runs_in n h ≡ true → h.low ≤ snapshot_in n h
  pub one : h.floor ≡ 1

module _ (h : Store) (w : Sound h) where
  -- last does not depend on low
  pub sound_last : last_of h ≡ last 0 h.records
  sound_last = rw (last_low 0 h.low h.records (omega arith)) (omega (arith, w.within))

  -- the next number needs no cap
  pub sound_next : next_of h ≡ above 1 h.records
  sound_next = rw w.one (let z = above_top 1 (omega arith) w.good in omega arith)

  -- one record more
  sound_step : (r : Record) → Step h.low h.records r → Sound (push r h)
  sound_step r s =
      record {
        good = more w.good (step_lower (omega arith) (sym sound_last) s);
        within = omega (arith, w.within, last_more 0 r h.records);
        from =
            λ m u.
            split (eqb r.transaction m)
            (λ x.
            let q : r.transaction ≡ m = eqb-true r.transaction m x in
            split (is_begin r)
            (λ b.
            let f : of m h.records ≡ [] = rw q at (fresh w.good r.transaction (s.opens b).fresh) in
            rw (x, b, f) (s.opens b).from)
            (λ b. rw (x, b) (w.from m (rw q at (s.goes_on b)))))
            (λ x. rw x (w.from m (rw x at u)));
        one = w.one;
      }

  -- one deed more
  pub sound_deed : (d : Deed) → Allowed h d → Sound (replayed d h)
  sound_deed (Did c) a = sound_step (record_of c h) (call_step h (omega (arith, sound_next)) a)
  sound_deed (Checkpointed v) (may_checkpoint t p q u) =
      record {
        good = w.good;
        within = omega (arith, sound_last);
        from = λ n r. not_held t n h.records h.records (begun_of n h.records r) u r;
        one = w.one;
      }
