-- `journal_list::fill` meets its contract: the list that was made stands in the lent columns, or is copied to them, or does not fit. Assumes nothing.
use Rattle.std.proofs.Common.{length, arith}
use Rattle.table.specs.Laws.{next_within, next_filled, next_copied}
use Rattle.journal_store.specs.Lent.{meant}
use Rattle.journal_store.specs.Tests.{list_rows}
use Rattle.journal_store.specs.Laws.{listed_filled}
use Rattle.journal_list.proofs.fill.Goals as goal

pub returns-then-store-listed : goal.returns-then-store-listed
returns-then-store-listed c =
    let a = c.args in
    let v = c.listing-made.ensures in
    let p = next_within _ _ _ _ _ _ v in
    listed_filled _
    (list_rows (length a.listed.now) a.t (meant a.store) c.if-t-store.false _ c.is_future.ensures c.if-is_future.false _ v.count (omega (arith, p.in_keys, v.keys_long)))
    (next_filled _ _ _ _ _ _ v)

pub returns : goal.returns
returns c =
    let a = c.args in
    let v = c.listing-count.ensures in
    listed_filled _
    (list_rows (length a.listed.now) a.t (meant a.store) c.if-t-store.false _ c.is_future.ensures c.if-is_future.false _ v.count (omega (arith, c.if-listed-count.false)))
    (next_copied _ _ _ _ _ _ v _ _ _ _ c.copy.ensures c.copy-2.ensures)
