-- `report::rows` meets its contract. The loop's invariant: what is written and the lines of the rows that are left are the whole text. Assumes nothing.
use mathlib.Core.Path.{◌≡◌}
use mathlib.Core.List.{List}
use Prim.Native.Nat.{ℕ, ◌≤◌, ◌-◌, ◌+◌, ◌*◌}
use lib.ListN.{length, drop}
use Rattle.rules.specs.Columns.{first_rows}
use Rattle.report.specs.Text.{row_lines, row_bytes}
use Rattle.report.specs.Written.{placed}
use Rattle.report.proofs.rows.Given as goal

module _ (keys values : List ℕ) (count : ℕ) where
  -- the lines of the rows from i on
  abbrev pub rest : ℕ → List ℕ
  rest i = row_lines (first_rows (count - i) (drop i keys) (drop i values))

  -- n is the place behind i lines, and the rest completes the text
  pub record Going (b₀ : List ℕ) (at : ℕ) (b : List ℕ) (n i : ℕ) : Type 0 where
    pub same : length b ≡ length b₀
    pub room : n + (count - i) * row_bytes ≤ length b
    pub ends : n + length (rest i) ≡ at + length (row_lines (first_rows count keys values))
    pub goes : placed b n (rest i) ≡ placed b₀ at (row_lines (first_rows count keys values))

abbrev pub invariant-loop-i : goal.invariant-loop-i
invariant-loop-i l = Going l.keys l.values l.count l.initial.out l.at l.out l.next l.i
