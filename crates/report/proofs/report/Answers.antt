-- `report::report` meets its contract: what recover answers decides the text. Assumes nothing.
use native.Mathlib.Omega.{arith}
use Rattle.report.specs.Calls.{recover_cells, refused_text_lem, recovered_text, recovered_shaped, reported}
use Rattle.report.proofs.report.Goals as goal

pub listing-requires : goal.listing-requires
listing-requires c = (recovered_shaped c.args.h c.args.keys.now c.args.values.now c.args.journal.now c.args.survived c.recover-answer.result.answer c.recover-answer.ensures c.in-Ok.is, c.requires)

pub returns-in-Err : goal.returns-in-Err
returns-in-Err c =
    reported c.refused.ensures
    (refused_text_lem c.args.h c.args.keys.now c.args.values.now c.args.journal.now c.args.survived c.recover-answer.result.answer c.recover-answer.ensures _ c.in-Err.is)
    (recover_cells c.args.h c.args.keys.now c.args.values.now c.args.journal.now c.args.survived c.recover-answer.result.answer c.recover-answer.ensures)

pub returns-in-Ok : goal.returns-in-Ok
returns-in-Ok c =
    reported c.listing.ensures
    (recovered_text c.args.h c.args.keys.now c.args.values.now c.args.journal.now c.args.survived c.recover-answer.result.answer c.recover-answer.ensures c.in-Ok.is (λ i l. omega (arith, c.slice_known-1.given i)))
    (recover_cells c.args.h c.args.keys.now c.args.values.now c.args.journal.now c.args.survived c.recover-answer.result.answer c.recover-answer.ensures)
