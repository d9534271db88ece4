-- Section 5's walk as facts: what it has found in a record behind older ones, whatever the record's kind, and a journal of such records.
-- Judged proves that the walk's tests and these facts say the same. Assumes nothing.
use Rattle.std.specs.Prelude.{◌≡◌, refl, true, false, List, [], ◌∷◌, ℕ, ◌-◌, ◌<◌, ◌≤◌, length}
use Rattle.std.proofs.lemmas.Bool.{false≢true}
use Rattle.rules.specs.Limits.{most_running, numbers_end}
use Rattle.rules.specs.declared.Record.{Record}
use Rattle.rules.specs.Kinds.{is_begin, is_update, is_commit, aborted}
use Rattle.rules.specs.Transactions.{snapshot, runs, running, may_write}
use Rattle.rules.specs.Times.{last, above}
use Rattle.rules.specs.Conflicts.{conflict}
use Rattle.rules.specs.Recovery.{formed}

-- a begin has a fresh number in range and a snapshot from low to last, and fewer than 8 run
pub record Opening (low : ℕ) (older : List Record) (r : Record) : Type 0 where
  pub fresh : above 1 older ≤ r.transaction
  pub ranged : r.transaction ≤ numbers_end - 1
  pub from : low ≤ r.time
  pub upto : r.time ≤ last low older
  pub few : length (running older) < most_running

-- a commit is later than last and conflicts with none
pub record Settling (low : ℕ) (older : List Record) (r : Record) : Type 0 where
  pub later : last low older < r.time
  pub clear : conflict r.transaction (snapshot r.transaction older) older ≡ false

-- a record begins a transaction, or belongs to one that runs; an update is of a key that its transaction may write, at most 32 of them
pub record Step (low : ℕ) (older : List Record) (r : Record) : Type 0 where
  pub form : formed r ≡ true
  pub opens : is_begin r ≡ true → Opening low older r
  pub goes_on : is_begin r ≡ false → runs r.transaction older ≡ true
  pub writes : is_update r ≡ true → may_write r.transaction r.key older ≡ true
  pub settles : is_commit r ≡ true → Settling low older r

-- every record of a journal, the newest first, is such a step behind the older ones
pub data Good (low : ℕ) : List Record → Type 0 where
  none : Good low []
  more : {r : Record} {older : List Record} → Good low older → Step low older r → Good low (r ∷ older)

-- an abort of a running transaction is a step
pub abort_step : {low : ℕ} {older : List Record} (n : ℕ) → runs n older ≡ true → Step low older (aborted n)
abort_step n u =
    record {
      form = refl;
      opens = λ e. absurd (false≢true e);
      goes_on = λ e. u;
      writes = λ e. absurd (false≢true e);
      settles = λ e. absurd (false≢true e);
    }
