-- `journal::transactions::is_held` meets its contract: a begin whose transaction runs from a snapshot below the time. Assumes nothing.
use Rattle.journal.specs.EndsLaws.{held_none}
use Rattle.journal.proofs.transactions.is_held.Goals as goal

pub returns-then-not-is_open : goal.returns-then-not-is_open
returns-then-not-is_open c =
    let a = c.args in
    held_none a.records.bytes.now a.i a.records.used c.requires a.r _ c.is_open.ensures a.t c.if-not-is_open.true
