-- No second answer satisfies a contract that does not hang on what the system hands over. Assumes nothing.
use Rattle.std.specs.Prelude.{◌≡◌, ℕ, ℤ}
use Rattle.std.proofs.Common.{sym, ◌∙◌}
use Rattle.streams.specs.Moves.{Moved, Step, moved_by, step_of}

pub moved_by_unique : (answer error : ℤ) {r s : Moved} → r ≡ moved_by answer error → s ≡ moved_by answer error → r ≡ s
moved_by_unique answer error p q = p ∙ sym q

pub next_step_unique : (m : Moved) (done left : ℕ) {r s : Step} → r ≡ step_of m done left → s ≡ step_of m done left → r ≡ s
next_step_unique m done left p q = p ∙ sym q
