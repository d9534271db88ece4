-- `map_commit::Written::is_first` meets its contract: a row is the first with its key exactly if no row before it is found. Assumes nothing.
use Rattle.std.proofs.Common.{◌≡◌, not, get_or, sym, ap, ◌∙◌}
use Rattle.std.specs.Option.{is_some}
use Rattle.rules.specs.Bools.{split}
use Rattle.slot.specs.Places.{has_key}
use Rattle.map_commit.specs.Commit.{rows_to}
use Rattle.map_commit.specs.RowLaws.{has_before}
use Rattle.map_commit.proofs.Written.is_first.Goals as goal

pub returns : goal.returns
returns c =
    let a = c.args in
    let k = get_or a.self.slot.now.keys a.i 0 in
    let e : has_key k (rows_to a.self.slot.now a.i) ≡ not c.is_none.result =
    has_before a.self.slot.now a.self.rowed a.i k c.requires ∙ ap is_some (sym c.find.ensures) ∙ c.is_none.ensures
    in
    split c.is_none.result (λ t. rw (e, t)) (λ t. rw (e, t))
