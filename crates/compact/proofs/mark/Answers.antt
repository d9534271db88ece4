-- `compact::mark` meets its contract: no number is marked before the first. Assumes nothing.
use Rattle.compact.specs.MarksLaws.{no_marks}
use Rattle.compact.proofs.mark.Goals as goal

pub loop-n-init : goal.loop-n-init
loop-n-init c = no_marks _ c.requires
