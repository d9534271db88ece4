-- The measure is the number, which a tenth falls below.
use Rattle.decimal.proofs.+print.Given as goal

abbrev pub decreases-print : goal.decreases-print
decreases-print l = l.n
