-- `compact::keep_done` meets its contract: what the column of the late commits keeps is what recovery keeps. Assumes nothing.
use Rattle.std.proofs.Common.{◌≡◌, ap, ◌∙◌, true}
use Rattle.rules.specs.Recovery.{accepts, survivors}
use Rattle.record.specs.Bytes.{records_in}
use Rattle.record.specs.Records.{records_of}
use Rattle.compact.specs.Laws.{survivors_column}
use Rattle.compact.proofs.keep_done.Goals as goal

pub returns : goal.returns
returns c =
    let a = c.args in
    let r = c.new-records.result in
    let rs = records_in a.used a.journal.now in
    let e : records_of r ≡ rs = ap (λ u. records_in u r.bytes.now) c.new-records.ensures.1 ∙ ap (records_in a.used) c.new-records.ensures.0 in
    let h : accepts a.low (records_of r) ≡ true = ap (accepts a.low) e ∙ c.requires.3 in
    let k = survivors_column a.low r.used _ (records_of r) _ _ h c.late_numbers-late.ensures in
    rw (rw e at k) at c.keep_up_to.ensures
