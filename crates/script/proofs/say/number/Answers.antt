-- The digits of a number of 64 bits have room behind the blank.
use Rattle.std.proofs.Common.{arith}
use Rattle.decimal.specs.Laws.{digits_64}
use Rattle.script.proofs.say.number.Goals as goal

pub print-end-requires : goal.print-end-requires
print-end-requires g c = omega (arith, digits_64 c.args.n c.ranges.n.fits)
