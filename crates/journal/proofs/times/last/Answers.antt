-- `journal::times::last` meets its contract: a time that is no later than last, and that no commit is later than, is last. Assumes nothing.
use mathlib.Core.Path.{sym, ◌∙◌}
use native.Mathlib.Omega.{arith}
use Rattle.record.specs.Bytes.{records_in}
use Rattle.journal.specs.PastLaws.{last_past}
use Rattle.journal.proofs.times.last.Goals as goal

pub returns-else-is_passed : goal.returns-else-is_passed
returns-else-is_passed c =
    let a = c.args in
    let l = last_past a.low _ (records_in a.records.used a.records.bytes.now) c.newest_time-t.ensures.0 (sym c.is_passed.ensures ∙ c.if-is_passed.false) in
    omega (arith, c.newest_time-t.ensures.1)
