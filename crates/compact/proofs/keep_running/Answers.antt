-- `compact::keep_running` meets its contract: what its two columns keep is what rule 3.9 keeps. Assumes nothing.
use Rattle.std.proofs.Common.{◌≡◌, ap, ◌∙◌, arith, ◌*◌}
use Rattle.rules.specs.Kinds.{record_size}
use Rattle.rules.specs.Checkpoints.{kept}
use Rattle.record.specs.Bytes.{records_in}
use Rattle.record.specs.Records.{records_of}
use Rattle.compact.specs.Laws.{kept_columns}
use Rattle.compact.proofs.keep_running.Goals as goal

pub returns : goal.returns
returns c =
    let a = c.args in
    let r = c.new-records.result in
    let rs = records_in a.used a.journal.now in
    let e : records_of r ≡ rs = ap (λ u. records_in u r.bytes.now) c.new-records.ensures.1 ∙ ap (records_in a.used) c.new-records.ensures.0 in
    let k = kept_columns a.t r.used _ _ (records_of r) _ _ _ _ c.running_numbers-opened.ensures c.late_numbers-late.ensures in
    rw (rw e at k) at c.keep_up_to.ensures
