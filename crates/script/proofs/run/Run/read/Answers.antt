-- The line is the next one, and says which follows.
use Rattle.script.specs.Run.{read}
use Rattle.script.proofs.run.Run.read.Goals as goal

pub returns : goal.returns
unfolding read
returns c = rw (c.wrapping_add_u32.ensures.value, c.after.ensures, c.read-line.ensures)
