-- No second answer satisfies a contract. Assumes nothing.
use Rattle.std.specs.Prelude.{◌≡◌, List, ℕ}
use Rattle.std.proofs.Common.{sym, ◌∙◌}
use Rattle.journal_store.specs.Shape.{empty_head}
use Rattle.report.specs.Unique.{report_unique}
use Rattle.list.specs.declared.Ending.{Ending}
use Rattle.list.specs.Ending.{none, Output, ending_of}

pub report_on_unique : (j text : List ℕ) (survived count count' : ℕ) (exit exit' text' text'' : List ℕ) {o o' : Ending}
    → Output j survived text count exit text' × (o ≡ ending_of j survived) → Output j survived text count' exit' text'' × (o' ≡ ending_of j survived)
    → ((count ≡ count') × (exit ≡ exit') × (text' ≡ text'')) × (o ≡ o')
report_on_unique j text survived count count' exit exit' text' text'' p q =
    (report_unique empty_head none none j text survived count count' exit exit' text' text'' p.0 q.0, p.1 ∙ sym q.1)
