-- What is a refusal: its text alone starts with an r. Assumes nothing.
use Rattle.std.specs.Prelude.{Bool, true, false, cond, List, ℕ, length, Option, Some, None}
use Rattle.rules.specs.Recovery.{walk}
use Rattle.journal_store.specs.declared.Head.{Head}
use Rattle.journal_store.specs.CallContracts.{is_recoverable, surviving}

-- recovery refuses the record at some place
abbrev pub is_bad : Option ℕ → Bool
is_bad None = false
is_bad (Some place) = true

-- the store refuses: the shape cannot be recovered, or a record is bad
abbrev pub is_refused : Head → List ℕ → List ℕ → List ℕ → ℕ → Bool
is_refused h keys values j survived =
    cond (is_recoverable h keys (length values) (length j) survived) (is_bad (walk h.low (surviving survived j))) true
