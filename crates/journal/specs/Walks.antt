-- What the walks over the records carry, and that it is what the rules say of the records passed. Assumes nothing.
use Rattle.std.specs.Prelude.{◌≡◌, true, cond, not, ◌&&◌, ◌||◌, List, ℕ, ◌≤◌, eqb, length}
use Rattle.rules.specs.declared.Record.{Record}
use Rattle.rules.specs.Kinds.{is_begin, is_end}
use Rattle.rules.specs.Transactions.{any, first_begin, running}
use Rattle.rules.specs.Times.{above_step}
use Rattle.journal.specs.declared.transactions.Trace.{Trace}

-- one more than a begin's number counts, and that fits 33 bits
pub record Above (r : Record) (best v : ℕ) : Type 0 where
  pub step : v ≡ above_step r best
  pub fits : v ≤ 4294967296

-- what a transaction's own records say of it
abbrev pub trace_of : List Record → Trace
trace_of own = record { begun = any is_begin own; ended = any is_end own; snapshot = first_begin own }

-- the transaction has ended
abbrev pub ended_by : Trace → Trace
ended_by s = record { begun = s.begun; ended = true; snapshot = s.snapshot }

-- one record more
abbrev pub traced : ℕ → Record → Trace → Trace
traced n r s =
    cond (eqb r.transaction n)
    (record { begun = is_begin r || s.begun; ended = is_end r || s.ended; snapshot = cond (is_begin r && not s.begun) r.time s.snapshot })
    s

-- how many run: no more than there are records
pub record Counted (rs : List Record) (used n : ℕ) : Type 0 where
  pub count : n ≡ length (running rs)
  pub few : n ≤ used
