-- `Slot::find` meets its contract: the row found stands below the array's length.
use Rattle.std.proofs.Common.{◌≡◌, ◌∙◌, sym, arith, rules, length, take}
use Rattle.std.proofs.Math.ListN.{length-take}
use Rattle.column.specs.Laws.{first_at}
use Rattle.slot.proofs.Slot.find.Goals as goal

pub returns-clause-by_index : goal.returns-clause-by_index
returns-clause-by_index c i e =
    let a = c.args in
    let full : length a.self.keys ≡ 32 = search rules in
    omega (
      arith,
      (first_at a.key (take a.self.count a.self.keys) {i = i} (sym c.find.ensures ∙ e)).row,
      length-take a.self.count a.self.keys,
    )
