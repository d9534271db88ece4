-- `map_store::update::is_full` meets its contract: a key that is found has a row, another one needs one. Assumes nothing.
use mathlib.Core.Path.{◌≡◌, sym, ap, ◌∙◌}
use mathlib.Core.Bool.{not}
use lib.Dec.{leb}
use borrow.Author.Tests.{leb-true, leb-false, le-ltb, lt-ltb}
use Rattle.rules.specs.Bools.{split}
use Rattle.std.specs.Option.{is_some}
use Rattle.slot.specs.Places.{has_key, slot_rows}
use Rattle.slot.specs.RowLaws.{has_row, length_rows}
use Rattle.map_store.proofs.update.is_full.Goals as goal
use Rattle.map_store.proofs.update.is_full.Goals.{After-is_none}

-- the slot has a row for k exactly if one is found
found : (c : After-is_none) → has_key c.args.k (slot_rows c.args.s) ≡ not c.is_none.result
found c = has_row c.args.s c.requires c.args.k ∙ ap is_some (sym c.find.ensures.value) ∙ c.is_none.ensures

pub returns-then-is_none : goal.returns-then-is_none
returns-then-is_none c =
    let s = c.args.s in
    rw (found (goal.at.returns-then-is_none c).After-is_none, c.if-is_none.true, length_rows s.keys s.values s.marks s.count)
    (split (leb 32 s.count)
    (λ l. rw (l, le-ltb s.count 32 (leb-true 32 s.count l)))
    (λ l. rw (l, lt-ltb s.count 32 (leb-false 32 s.count l))))

pub returns-else-is_none : goal.returns-else-is_none
returns-else-is_none c = rw (found (goal.at.returns-else-is_none c).After-is_none, c.if-is_none.false)
