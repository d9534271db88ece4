-- `journal_checkpoint::shorten` meets its contract: a law for each way out. Assumes nothing.
use Rattle.std.proofs.Common.{refl, ap, ◌∙◌, None}
use Rattle.rules.specs.Times.{next}
use Rattle.rules.specs.Calls.{Store, checkpoint_refusal}
use Rattle.record.specs.Bytes.{records_in}
use Rattle.answer.specs.Reply.{told, accepted}
use Rattle.journal_store.specs.LentLaws.{made_meant}
use Rattle.journal_store.specs.Laws.{checkpoint_written}
use Rattle.journal_checkpoint.proofs.shorten.Goals as goal

pub returns : goal.returns
returns c =
    let a = c.args in
    let w = c.in_ok-store.ensures in
    let f = c.in_ok-rows.ensures in
    let k = c.keep_running-used.ensures in
    checkpoint_written a.t a.h a.keys.now a.values.now a.journal.now w.shaped (accepted None)
    (c.in_ok-decide.ensures ∙ ap (λ (s : Store). told (checkpoint_refusal a.t s) None) (made_meant w)) refl c.in_ok-rows.rows f.count _ _ _ _ f.fits
    (λ i.
    record {
      low = a.t;
      floor = (c.next-floor.ensures ∙ (λ i. next a.h.floor (records_in (w.used i) (w.cells i)))) i;
      base = record { rows = f.count i };
      journal = record { used = k.count i };
    })
    f.filled k.cells
