-- `journal_store::abort::decide` meets its contract: a law for each way out. Assumes nothing.
use mathlib.Core.Path.{sym, ◌∙◌}
use Rattle.record.specs.Laws.{length_records}
use Rattle.journal_store.specs.Tests.{abort_room}
use Rattle.journal_store.proofs.abort.decide.Goals as goal

pub returns : goal.returns
returns c = abort_room (sym c.runs.ensures ∙ c.if-not-runs.false) (length_records _ _) c.with_room.ensures
