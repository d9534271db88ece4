-- `compact::mark` meets its contract. The loop's invariant: the numbers passed are marked. Assumes nothing.
use lib.ListN.{take}
use Rattle.compact.specs.Marks.{Marks}
use Rattle.compact.proofs.mark.Given as goal

abbrev pub invariant-loop-n : goal.invariant-loop-n
invariant-loop-n l = Marks (take l.n-index l.numbers) l.marks l.alone
