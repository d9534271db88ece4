-- `values::kept::Kept::effects` meets its contract. The loop's invariant: v is what the first i kept updates make of the old value. Assumes nothing.
use mathlib.Core.Path.{◌≡◌}
use Rattle.values.specs.Pass.{kept_effects}
use Rattle.values.proofs.kept.Kept.effects.Given as goal

abbrev pub invariant-loop-i : goal.invariant-loop-i
invariant-loop-i g l = l.v ≡ kept_effects l.self.transactions l.self.kinds l.self.amounts l.n l.i l.initial.v
