-- `journal_recovery::restore` meets its contract: where shape test and walk accept, the records can move up. Assumes nothing.
use Rattle.std.proofs.Common.{sym, ◌∙◌, length}
use Rattle.record.specs.Bytes.{records_in}
use Rattle.rules.specs.Recovery.{walk}
use Rattle.walk.specs.Judged.{walk_whole}
use Rattle.journal_store.specs.CallContracts.{surviving}
use Rattle.journal_store.specs.ShapeLaws.{recoverable}
use Rattle.journal_recovery.proofs.restore.Goals as goal

pub keep_done-kept-requires : goal.keep_done-kept-requires
keep_done-kept-requires c =
    let a = c.args in
    let z = sym c.shaped.ensures ∙ c.if-not-shaped.false in
    let q = recoverable a.h a.keys.now (length a.values.now) (length a.journal.now) a.survived z in
    let r = c.new-records.ensures in (
      q.few,
      q.there,
      q.within,
      walk_whole a.h.low (surviving a.survived a.journal.now)
          ((λ i. walk a.h.low (records_in (sym r.1 i) (sym r.0 i))) ∙ sym c.walk.ensures ∙ c.in_default.is),
    )
