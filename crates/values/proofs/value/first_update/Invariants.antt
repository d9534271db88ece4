-- `values::value::first_update` meets its contract, which is the loop's invariant too. Assumes nothing.
use Rattle.values.specs.Pass.{Unwritten}
use Rattle.values.proofs.value.first_update.Given as goal

abbrev pub invariant-loop-i : goal.invariant-loop-i
invariant-loop-i l = Unwritten l.records l.k l.i
