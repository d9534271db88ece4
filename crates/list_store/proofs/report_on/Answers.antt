-- A whole store's report is that of its head, base and journal, and a refusal is told by the first byte of the text.
use Rattle.store_file.specs.Laws.{opened_whole}
use Rattle.list_store.specs.Laws.{whole_printed, told_listed}
use Rattle.list_store.proofs.report_on.Goals as goal

pub returns-then-text-eq114-clause-output : goal.returns-then-text-eq114-clause-output
returns-then-text-eq114-clause-output c =
    let k = opened_whole c.open.ensures c.in-Some.head c.in-Some.start c.in-Some.is in
    whole_printed c.args.file.now k c.report_from-count.ensures

pub returns-clause-output : goal.returns-clause-output
returns-clause-output c =
    let k = opened_whole c.open.ensures c.in-Some.head c.in-Some.start c.in-Some.is in
    whole_printed c.args.file.now k c.report_from-count.ensures

pub returns-clause-ending_value : goal.returns-clause-ending_value
returns-clause-ending_value c =
    let k = opened_whole c.open.ensures c.in-Some.head c.in-Some.start c.in-Some.is in
    told_listed c.args.file.now k c.report_from-count.ensures c.if-text-eq114.false
