-- That no commit of some records is later than a time. Assumes nothing.
use Rattle.std.specs.Prelude.{◌≡◌, true, List, [], ◌∷◌, ℕ, ◌≤◌}
use Rattle.rules.specs.declared.Record.{Record}
use Rattle.rules.specs.Kinds.{is_commit}

-- every commit of some records is at or before l
pub data Past (l : ℕ) : List Record → Type 0 where
  none : Past l []
  more : (r : Record) (rs : List Record) → (is_commit r ≡ true → r.time ≤ l) → Past l rs → Past l (r ∷ rs)
