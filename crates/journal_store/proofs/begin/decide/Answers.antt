-- `journal_store::begin::decide` meets its contract: a law for each way out. Assumes nothing.
use mathlib.Core.Path.{sym, ◌∙◌}
use Rattle.std.proofs.lemmas.Result.{err_from_is_err_and}
use Rattle.record.specs.Laws.{length_records}
use Rattle.journal_store.specs.Tests.{begin_short, begin_fits}
use Rattle.journal_store.proofs.begin.decide.Goals as goal

pub returns-in_err-with_room : goal.returns-in_err-with_room
returns-in_err-with_room c =
    let p = err_from_is_err_and c.from_residual.result c.from_residual.ensures.1 in
    rw (p.1, p.2)
    (begin_short c.if-t-store.false (sym c.is_future.ensures ∙ c.if-is_future.false) c.count_running-running.ensures.count
    c.if-running-ge-RUNNING.false c.next-next.ensures c.if-next-ge-NO_NUMBER.false (length_records _ _) _ c.in_err-with_room.ensures)

pub returns : goal.returns
returns c =
    begin_fits c.if-t-store.false (sym c.is_future.ensures ∙ c.if-is_future.false) c.count_running-running.ensures.count
    c.if-running-ge-RUNNING.false c.next-next.ensures c.if-next-ge-NO_NUMBER.false (length_records _ _) c.in_ok-with_room.ensures
