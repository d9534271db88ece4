-- `Slots::closed` meets its contract: the one slot is what `Slot::close` hands back, and the mask clears its bit.
use Rattle.std.proofs.Common.{rules}
use Rattle.slot.proofs.Masks.{one_bit, masked_zero}
use Rattle.slot.proofs.Slots.closed.Goals as goal

pub returns : goal.returns
returns c = let a = c.args in let w = one_bit a.i c.requires in rw (w, masked_zero 8 a.i a.self.occupied c.requires (search rules), c.close.ensures)
