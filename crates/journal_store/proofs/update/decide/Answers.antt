-- `journal_store::update::decide` meets its contract: a law for each way out. Assumes nothing.
use mathlib.Core.Path.{sym, ◌∙◌}
use Rattle.record.specs.Laws.{length_records}
use Rattle.journal_store.specs.Tests.{update_room}
use Rattle.journal_store.proofs.update.decide.Goals as goal

pub returns : goal.returns
returns c =
    update_room (sym c.runs.ensures ∙ c.if-not-runs.false) c.if-k-eq0.false (sym c.may_write.ensures ∙ c.if-not-may_write.false)
    c.count_running.ensures.count (length_records _ _) c.with_room.ensures
