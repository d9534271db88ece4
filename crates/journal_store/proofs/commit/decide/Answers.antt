-- `journal_store::commit::decide` meets its contract: a law for each way out. Assumes nothing.
use mathlib.Core.Path.{sym, ◌∙◌}
use Rattle.record.specs.Records.{records_of}
use Rattle.record.specs.Laws.{length_records}
use Rattle.journal.specs.PastLaws.{past_last}
use Rattle.journal_store.specs.Tests.{commit_room}
use Rattle.journal_store.proofs.commit.decide.Goals as goal

pub conflict-requires : goal.conflict-requires
conflict-requires c =
    let s = c.args.store in (s.few_records, rw c.last-last.ensures (past_last s.low (records_of s.records)))

pub returns : goal.returns
returns c =
    commit_room (sym (rw c.follow-trace.ensures at c.runs.ensures) ∙ c.if-not-runs.false) c.last-last.ensures c.if-t-last.false
    (sym (rw c.follow-trace.ensures at c.conflict.ensures) ∙ c.if-conflict.false) (length_records _ _) c.with_room.ensures
