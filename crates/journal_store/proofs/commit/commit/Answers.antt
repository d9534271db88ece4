-- `journal_store::commit::commit` meets its contract: what was decided is written. Assumes nothing.
use Rattle.std.specs.Prelude.{None}
use Rattle.rules.specs.Calls.{Commit}
use Rattle.std.proofs.Common.{rules}
use Rattle.journal_store.specs.Laws.{told_room, written}
use Rattle.journal_store.specs.LentLaws.{told_by}
use Rattle.journal_store.proofs.commit.commit.Goals as goal

pub put-head-requires : goal.put-head-requires
put-head-requires c =
    let a = c.args in
    told_room (told_by a.h a.keys.now a.values.now a.journal.now (λ _. None) (Commit a.n a.t) c.new.result c.and_then-answer.result c.new.ensures (search rules))
    (search rules)

pub returns : goal.returns
returns c =
    let a = c.args in
    written (told_by a.h a.keys.now a.values.now a.journal.now (λ _. None) (Commit a.n a.t) c.new.result c.and_then-answer.result c.new.ensures (search rules))
    (search rules) c.put-head.ensures.0 (rw c.committed.ensures at c.put-head.ensures.1)
