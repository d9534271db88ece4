-- `Slots::is_occupied` meets its contract: a byte has no bit from the eighth on, and the shift brings the others to the front.
use Rattle.std.proofs.Common.{sym, ◌∙◌, rules, le-ltb}
use Rattle.slot.specs.BitLaws.{past}
use Rattle.slot.proofs.Masks.{shifted}
use Rattle.slot.proofs.Slots.is_occupied.Goals as goal

pub returns-then-i-lt-SLOTS : goal.returns-then-i-lt-SLOTS
returns-then-i-lt-SLOTS c = shifted c.args.i c.args.self.occupied

pub returns-else-i-lt-SLOTS : goal.returns-else-i-lt-SLOTS
returns-else-i-lt-SLOTS c =
    let a = c.args in
    le-ltb a.i 8 c.if-i-lt-SLOTS.false ∙ sym (past 8 a.i a.self.occupied c.if-i-lt-SLOTS.false (search rules))
