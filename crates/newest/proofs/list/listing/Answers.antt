-- `newest::list::listing` meets its contract: the table of the newest rows, followed to the values, is the list.
use native.Mathlib.Omega.{arith}
use Rattle.versions.specs.Versions.{columns}
use Rattle.table.specs.Laws.{next_within}
use Rattle.newest.specs.Laws.{named, listed_columns}
use Rattle.newest.proofs.list.listing.Goals as goal

pub follow-requires : goal.follow-requires
follow-requires c =
    let a = c.args in (
      (next_within _ _ _ _ _ _ c.newest_rows-n.ensures).in_values,
      λ x l. omega (arith, named a.stamps.keys.now a.stamps.times.now a.t a.stamps.used c.newest_rows-n.ensures x l, c.requires.1),
    )

pub returns : goal.returns
returns c marks =
    let a = c.args in
    listed_columns (columns a.stamps.keys.now a.stamps.times.now a.values.now marks) a.t a.stamps.used _ _ _ _ _ _ c.newest_rows-n.ensures c.follow.ensures
