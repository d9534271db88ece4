-- No second answer satisfies a contract. Assumes nothing.
use Rattle.std.specs.Prelude.{◌≡◌, List, ℕ}
use Rattle.std.proofs.Common.{sym, ◌∙◌}
use Rattle.journal_store.specs.declared.Head.{Head}
use Rattle.list_store.specs.declared.Ending.{Ending}
use Rattle.list_store.specs.Text.{Output, ReportedFrom, ending_of}

pub report_from_unique : (h : Head) (keys values file : List ℕ) (start : ℕ) (out : List ℕ) (r r' : ℕ) (file' file'' out' out'' : List ℕ)
    → ReportedFrom h keys values file start out r file' out' → ReportedFrom h keys values file start out r' file'' out''
    → (r ≡ r') × (file' ≡ file'') × (out' ≡ out'')
report_from_unique h keys values file start out r r' file' file'' out' out'' p q =
    (p.count ∙ sym q.count, p.cells ∙ sym q.cells, p.text ∙ sym q.text)

pub report_on_unique : (file out : List ℕ) (r r' : ℕ) (file' file'' out' out'' : List ℕ) {o o' : Ending}
    → Output file out r file' out' × (o ≡ ending_of file) → Output file out r' file'' out'' × (o' ≡ ending_of file)
    → ((r ≡ r') × (file' ≡ file'') × (out' ≡ out'')) × (o ≡ o')
report_on_unique file out r r' file' file'' out' out'' p q =
    ((p.0.count ∙ sym q.0.count, p.0.cells ∙ sym q.0.cells, p.0.text ∙ sym q.0.text), p.1 ∙ sym q.1)
