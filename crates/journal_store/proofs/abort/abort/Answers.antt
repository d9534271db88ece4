-- `journal_store::abort::abort` meets its contract: what was decided is written. Assumes nothing.
use Rattle.std.specs.Prelude.{None}
use Rattle.rules.specs.Calls.{Abort}
use Rattle.std.proofs.Common.{rules}
use Rattle.journal_store.specs.Laws.{told_room}
use Rattle.journal_store.specs.LentLaws.{told_by}
use Rattle.journal_store.proofs.abort.abort.Goals as goal

pub put-head-requires : goal.put-head-requires
put-head-requires c =
    let a = c.args in
    told_room (told_by a.h a.keys.now a.values.now a.journal.now (λ _. None) (Abort a.n) c.new.result c.and_then-answer.result c.new.ensures (search rules))
    (search rules)
