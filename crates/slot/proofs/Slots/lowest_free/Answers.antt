-- `Slots::lowest_free` meets its contract: the trailing zeros of the complement are the trailing ones.
use Rattle.std.proofs.Common.{rules}
use Rattle.slot.specs.Slots.{lowest_free}
use Rattle.slot.proofs.Masks.{lowest}
use Rattle.slot.proofs.Slots.lowest_free.Goals as goal

pub returns : goal.returns
unfolding lowest_free
returns c = lowest c.args.self.occupied (search rules)
