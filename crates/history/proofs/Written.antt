-- The record that an accepted call writes is one that the walk accepts; and an update's record by facts, the same for assign and add.
-- Assumes nothing.
use Rattle.std.specs.Prelude.{◌≡◌, refl, true, false, ℕ, ◌≤◌}
use Rattle.std.proofs.Common.{ap, true≢false, arith, ne_eqb}
use Rattle.std.proofs.lemmas.Bool.{false≢true}
use Rattle.rules.specs.declared.Record.{Record}
use Rattle.rules.specs.declared.Effect.{Effect}
use Rattle.rules.specs.declared.Effect.TheVariants.{Assign, Add}
use Rattle.rules.specs.Kinds.{is_begin, is_update, is_commit, is_end, begun}
use Rattle.rules.specs.Effects.{effect_of}
use Rattle.rules.specs.Times.{above}
use Rattle.rules.specs.Calls.{Store, next_of, updated, Call, Begin, Update, Abort, Commit, record_of}
use Rattle.rules.specs.Bools.{not_both}
use Rattle.history.specs.History.{Did}
use Rattle.history.proofs.Good.{Step, abort_step}
use Rattle.history.proofs.Allowed.{Allowed, may_begin, may_update, may_abort, may_commit}

-- an update of k by transaction n: it begins and ends nothing, and its unused fields are zero
pub record Writing (n k : ℕ) (e : Effect) (r : Record) : Type 0 where
  pub zeros : r.zeros ≡ 0
  pub number : r.transaction ≡ n
  pub key : r.key ≡ k
  pub effect : effect_of r ≡ e
  pub time : r.time ≡ 0
  pub updates : is_update r ≡ true
  pub begins : is_begin r ≡ false
  pub commits : is_commit r ≡ false
  pub ends : is_end r ≡ false

-- the record of an update is such a one
pub writing : (n k : ℕ) (e : Effect) → Writing n k e (updated n k e)
writing n k (Assign v) =
    record { zeros = refl; number = refl; key = refl; effect = refl; time = refl; updates = refl; begins = refl; commits = refl; ends = refl }
writing n k (Add d) =
    record { zeros = refl; number = refl; key = refl; effect = refl; time = refl; updates = refl; begins = refl; commits = refl; ends = refl }

-- a record that begins a transaction has the next number
pub begins_next : (c : Call) (s : Store) → is_begin (record_of c s) ≡ true → (record_of c s).transaction ≡ next_of s
begins_next (Begin t) s b = refl
begins_next (Update n k e) s b = not_both (is_begin (updated n k e)) b (writing n k e).begins
begins_next (Abort n) s b = absurd (false≢true b)
begins_next (Commit n t) s b = absurd (false≢true b)

-- two stores with one next number write the same record
pub same_record : (c : Call) (s t : Store) → next_of s ≡ next_of t → record_of c s ≡ record_of c t
same_record (Begin u) s t e = ap (λ (n : ℕ). begun n u) e
same_record (Update n k f) s t e = refl
same_record (Abort n) s t e = refl
same_record (Commit n u) s t e = refl

-- an accepted call writes a record that the walk accepts
pub call_step : (s : Store) → above 1 s.records ≤ next_of s → {c : Call} → Allowed s (Did c) → Step s.low s.records (record_of c s)
call_step s l (may_begin t p q u v) =
    record {
      form = refl;
      opens = λ b. record { fresh = l; ranged = omega arith; from = p; upto = q; few = u };
      goes_on = λ b. absurd (true≢false b);
      writes = λ e. absurd (false≢true e);
      settles = λ c. absurd (false≢true c);
    }
call_step s l (may_update n k e p q u) =
    let w = writing n k e in
    record {
      form = rw (w.zeros, w.begins, w.commits, w.updates, w.key, w.time, ne_eqb k 0 (omega arith));
      opens = λ b. not_both (is_begin (updated n k e)) b w.begins;
      goes_on = λ b. rw w.number p;
      writes = λ x. rw (w.number, w.key) u;
      settles = λ c. not_both (is_commit (updated n k e)) c w.commits;
    }
call_step s l (may_abort n p) = abort_step n p
call_step s l (may_commit n t p q u) =
    record {
      form = refl;
      opens = λ b. absurd (false≢true b);
      goes_on = λ b. p;
      writes = λ e. absurd (false≢true e);
      settles = λ c. record { later = q; clear = u };
    }
