-- No second answer satisfies the contract of `walk`, for any records. Assumes nothing.
use Rattle.std.specs.Prelude.{◌≡◌, List, ℕ, Option}
use Rattle.std.proofs.Common.{sym, ◌∙◌}
use Rattle.rules.specs.declared.Record.{Record}
use Rattle.rules.specs.Recovery.{walk}

-- walk: what it finds
pub walk_once : (rs : List Record) (low : ℕ) (r s : Option ℕ) → r ≡ walk low rs → s ≡ walk low rs → r ≡ s
walk_once rs low r s p q = p ∙ sym q
