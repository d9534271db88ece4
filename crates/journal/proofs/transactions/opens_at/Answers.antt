-- `journal::transactions::opens_at` meets its contract: a begin, no begin of its transaction before it, no end anywhere. Assumes nothing.
use Rattle.std.proofs.Common.{refl, true, ◌∙◌}
use borrow.Author.Tests.{le-leb}
use Rattle.record.specs.Bytes.{records_in}
use Rattle.journal.specs.EndsLaws.{none_of, opens_apart}
use Rattle.journal.proofs.transactions.opens_at.Goals as goal

pub returns-then-not-is_open : goal.returns-then-not-is_open
returns-then-not-is_open c =
    let a = c.args in
    rw c.if-not-is_open.true at (opens_apart a.records.bytes.now a.i a.records.used c.requires.0 a.r _ c.is_open.ensures _ refl)

pub returns-then-top-r : goal.returns-then-top-r
returns-then-top-r c =
    let a = c.args in
    let z = none_of a.r.transaction (records_in a.i a.records.bytes.now) (rw c.requires.1 at c.if-top-r.true) in
    le-leb _ _ c.if-top-r.true
    ∙ rw c.if-not-is_open.false at (opens_apart a.records.bytes.now a.i a.records.used c.requires.0 a.r _ c.is_open.ensures true (rw z refl))

pub returns-else-top-r : goal.returns-else-top-r
returns-else-top-r c =
    let a = c.args in
    rw c.if-not-is_open.false at (opens_apart a.records.bytes.now a.i a.records.used c.requires.0 a.r _ c.is_open.ensures _
    (rw (c.first.ensures.0, c.first.ensures.1) at c.is_unknown.ensures))
