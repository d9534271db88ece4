-- `Slots::find` meets its contract: the slot found is one of the eight.
use Rattle.std.proofs.Common.{sym, ◌∙◌, rules}
use Rattle.slot.specs.Slots.{has_number}
use Rattle.slot.specs.Laws.{first_slot_lem}
use Rattle.slot.proofs.Slots.find.Goals as goal

pub returns-clause-by_index : goal.returns-clause-by_index
returns-clause-by_index c i e = (first_slot_lem (has_number c.args.number) c.args.self (sym (search (rules, c.first.ensures.lowest)) ∙ e)).below
