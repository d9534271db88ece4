-- Laws of passes over records. Assumes nothing.
use Rattle.std.specs.Prelude.{◌≡◌, Bool, true, false, List, ◌∷◌, ℕ, eqb}
use Rattle.std.proofs.Common.{sym, ◌∙◌}
use Rattle.rules.specs.declared.Record.{Record}
use Rattle.rules.specs.Bools.{split, or_left}
use Rattle.rules.specs.Transactions.{any, of}
use Rattle.journal.specs.Walks.{trace_of, traced}

pub trace_more : (n : ℕ) (r : Record) (rs : List Record) → traced n r (trace_of (of n rs)) ≡ trace_of (of n (r ∷ rs))
trace_more n r rs = split (eqb r.transaction n) (λ e. rw e) (λ e. rw e)

-- a turn of a walk that asks whether some record passes a test
module _ (p : Record → Bool) (r : Record) (rs : List Record) (b : Bool) (d : b ≡ p r) (new : Bool) where
  pub any_met : b ≡ true → new ≡ true → new ≡ any p (r ∷ rs)
  any_met e f = f ∙ sym (or_left (p r) (any p rs) (sym d ∙ e))

  pub any_other : (old : Bool) → b ≡ false → new ≡ old → old ≡ any p rs → new ≡ any p (r ∷ rs)
  any_other old e f h = rw (sym d ∙ e) (f ∙ h)
