-- What the program says beside the listing. Assumes nothing.
use Rattle.std.specs.Prelude.{cond, List, [], ◌∷◌, ℕ, ltb}
use Rattle.rules.specs.Kinds.{record_size}
use Rattle.journal_store.specs.Shape.{empty_head}
use Rattle.report.specs.Written.{Reported}
use Rattle.report.specs.Refused.{is_refused}
use Rattle.list.specs.declared.Ending.{Ending}
use Rattle.list.specs.declared.Ending.TheVariants.{Listed, Empty, Refused}

-- a column of the base, of which no row is used
abbrev pub none : List ℕ
none = 0 ∷ []

-- the report of a journal alone: that of the empty head, without a base
abbrev pub Output : List ℕ → ℕ → List ℕ → ℕ → List ℕ → List ℕ → Type 0
Output j survived out r j' out' = Reported empty_head none none j survived out r j' out'

-- a refusal, or a listing, of no record where fewer bytes survived than a record has
abbrev pub ending_of : List ℕ → ℕ → Ending
ending_of j survived = cond (is_refused empty_head none none j survived) Refused (cond (ltb survived record_size) Empty Listed)
