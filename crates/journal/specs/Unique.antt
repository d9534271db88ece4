-- No second answer satisfies the contract of a public function, nor a second column at exit. Assumes nothing.
use Rattle.std.specs.Prelude.{◌≡◌, Bool, not, ◌&&◌, List, ◌++◌, reverse, ℕ, ltb, drop}
use Rattle.std.proofs.Common.{sym, ap, ◌∙◌}
use Rattle.rules.specs.declared.Record.{Record}
use Rattle.rules.specs.Transactions.{of, runs, running}
use Rattle.rules.specs.Times.{last, next}
use Rattle.rules.specs.Checkpoints.{held}
use Rattle.journal.specs.declared.Base.{Base}
use Rattle.journal.specs.declared.Journal.{Journal}
use Rattle.journal.specs.declared.transactions.Trace.{Trace}
use Rattle.journal.specs.Kinds.{empty_base, empty_journal}
use Rattle.journal.specs.Walks.{trace_of, Counted}
use Rattle.journal.specs.Gathered.{lates, Gathered}

-- a column filled: how many rows, and each cell at exit
once : (xs : List ℕ) (used r s : ℕ) (entry exit other : List ℕ) → Gathered xs used r entry exit → Gathered xs used s entry other → (r ≡ s) × (exit ≡ other)
once xs used r s entry exit other p q =
    let e : r ≡ s = p.many ∙ sym q.many in (e, p.cells ∙ ap (λ (n : ℕ). reverse xs ++ drop n entry) e ∙ sym q.cells)

pub base_unique : (a b : Base) → a ≡ empty_base → b ≡ empty_base → a ≡ b
base_unique a b p q = p ∙ sym q

pub journal_unique : (a b : Journal) → a ≡ empty_journal → b ≡ empty_journal → a ≡ b
journal_unique a b p q = p ∙ sym q

pub trace_runs_unique : (t : Trace) (a b : Bool) → a ≡ (t.begun && not t.ended) → b ≡ (t.begun && not t.ended) → a ≡ b
trace_runs_unique t a b p q = p ∙ sym q

module _ (rs : List Record) where
  pub last_unique : (low a b : ℕ) → a ≡ last low rs → b ≡ last low rs → a ≡ b
  last_unique low a b p q = p ∙ sym q

  pub is_future_unique : (low t : ℕ) (a b : Bool) → a ≡ ltb (last low rs) t → b ≡ ltb (last low rs) t → a ≡ b
  is_future_unique low t a b p q = p ∙ sym q

  pub next_unique : (floor a b : ℕ) → a ≡ next floor rs → b ≡ next floor rs → a ≡ b
  next_unique floor a b p q = p ∙ sym q

  pub follow_unique : (n : ℕ) (a b : Trace) → a ≡ trace_of (of n rs) → b ≡ trace_of (of n rs) → a ≡ b
  follow_unique n a b p q = p ∙ sym q

  pub runs_unique : (n : ℕ) (a b : Bool) → a ≡ runs n rs → b ≡ runs n rs → a ≡ b
  runs_unique n a b p q = p ∙ sym q

  pub running_numbers_unique : (used a b : ℕ) (entry exit other : List ℕ) → Gathered (running rs) used a entry exit
      → Gathered (running rs) used b entry other → (a ≡ b) × (exit ≡ other)
  running_numbers_unique used a b entry exit other p q = once (running rs) used a b entry exit other p q

  pub count_running_unique : (used a b : ℕ) → Counted rs used a → Counted rs used b → a ≡ b
  count_running_unique used a b p q = p.count ∙ sym q.count

  pub held_unique : (t : ℕ) (a b : Bool) → a ≡ held t rs → b ≡ held t rs → a ≡ b
  held_unique t a b p q = p ∙ sym q

  pub late_numbers_unique : (s used a b : ℕ) (entry exit other : List ℕ) → Gathered (lates s rs) used a entry exit
      → Gathered (lates s rs) used b entry other → (a ≡ b) × (exit ≡ other)
  late_numbers_unique s used a b entry exit other p q = once (lates s rs) used a b entry exit other p q
