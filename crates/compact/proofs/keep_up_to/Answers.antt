-- `compact::keep_up_to` meets its contract. Assumes nothing.
use Rattle.std.proofs.Common.{refl}
use Rattle.compact.specs.Laws.{moved_up}
use Rattle.compact.proofs.keep_up_to.Goals as goal

pub returns : goal.returns
returns c = moved_up _ _ c.args.journal.now _ _ c.args.used _ c.args.end c.keep-count.ensures refl c.requires.0 c.zero.ensures
