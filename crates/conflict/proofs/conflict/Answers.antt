-- `conflict::conflict` meets its contract: with a snapshot at last nobody conflicts. Assumes nothing.
use mathlib.Core.Path.{sym, ◌∙◌}
use borrow.Author.Tests.{le-ltb}
use Rattle.record.specs.Bytes.{records_in}
use Rattle.conflict.specs.Clear.{no_conflict_since}
use Rattle.conflict.proofs.conflict.Goals as goal

pub returns-else-snapshot-last : goal.returns-else-snapshot-last
returns-else-snapshot-last c =
    let a = c.args in
    le-ltb a.snapshot a.last c.if-snapshot-last.false
    ∙ sym (no_conflict_since a.last a.snapshot a.n (records_in a.records.used a.records.bytes.now) c.if-snapshot-last.false c.requires.1)
