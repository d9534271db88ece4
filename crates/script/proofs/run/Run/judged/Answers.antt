-- What came of the line is counted.
use Rattle.script.specs.Run.{judged_by}
use Rattle.script.proofs.run.Run.judged.Goals as goal

pub returns : goal.returns
unfolding judged_by
returns g c = rw c.judged-tally.ensures
