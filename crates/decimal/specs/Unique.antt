-- No second answer satisfies `print`'s contract. Assumes nothing.
use Rattle.std.specs.Prelude.{◌≡◌, List, ℕ}
use Rattle.std.proofs.Common.{sym, ◌∙◌}
use Rattle.decimal.specs.Printed.{Printed}

-- the next place and the buffer at exit are determined
pub print_unique : {entry : List ℕ} {at n : ℕ} {r r' : ℕ} {exit exit' : List ℕ} → Printed entry at n r exit → Printed entry at n r' exit'
    → (r ≡ r') × (exit ≡ exit')
print_unique p q = (p.next ∙ sym q.next, p.bytes ∙ sym q.bytes)
