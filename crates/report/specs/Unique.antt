-- No second answer satisfies a contract: not another place, length, text or journal. Assumes nothing.
use Rattle.std.specs.Prelude.{◌≡◌, List, ℕ}
use Rattle.std.proofs.Common.{sym, ◌∙◌}
use Rattle.journal_store.specs.declared.Head.{Head}
use Rattle.report.specs.Written.{Written, Reported}

pub report_unique : (h : Head) (keys values j out : List ℕ) (survived r r' : ℕ) (exit exit' out' out'' : List ℕ)
    → Reported h keys values j survived out r exit out' → Reported h keys values j survived out r' exit' out'' → (r ≡ r') × (exit ≡ exit') × (out' ≡ out'')
report_unique h keys values j out survived r r' exit exit' out' out'' p q =
    (p.count ∙ sym q.count, p.cells ∙ sym q.cells, p.text ∙ sym q.text)

pub put_unique : (b text : List ℕ) (at r r' : ℕ) (b' b'' : List ℕ) → Written b at text r b' → Written b at text r' b'' → (r ≡ r') × (b' ≡ b'')
put_unique b text at r r' b' b'' p q = (p.next ∙ sym q.next, p.bytes ∙ sym q.bytes)
