-- No second answer satisfies the contract of a public function of `compact`, nor a second journal at exit. Assumes nothing.
use Rattle.std.specs.Prelude.{◌≡◌, List, ℕ, ◌*◌}
use Rattle.std.proofs.Common.{sym, ◌∙◌}
use Rattle.rules.specs.declared.Record.{Record}
use Rattle.rules.specs.Kinds.{record_size}
use Rattle.rules.specs.Checkpoints.{kept}
use Rattle.rules.specs.Recovery.{survivors}
use Rattle.record.specs.Bytes.{records_in}
use Rattle.compact.specs.Compact.{Compacted}

once : (stay : List Record) (end : ℕ) (journal : List ℕ) (r s : ℕ) (exit other : List ℕ)
    → Compacted stay end journal r exit → Compacted stay end journal s other → (r ≡ s) × (exit ≡ other)
once stay end journal r s exit other p q = (p.count ∙ sym q.count, p.cells ∙ sym q.cells)

-- keep_running: how many stay, and the journal at exit
pub keep_running_once : (journal : List ℕ) (used t r s : ℕ) (exit other : List ℕ)
    → Compacted (kept t (records_in used journal)) (used * record_size) journal r exit
    → Compacted (kept t (records_in used journal)) (used * record_size) journal s other
    → (r ≡ s) × (exit ≡ other)
keep_running_once journal used t r s exit other p q = once (kept t (records_in used journal)) (used * record_size) journal r s exit other p q

-- keep_done: the same
pub keep_done_once : (journal : List ℕ) (used end r s : ℕ) (exit other : List ℕ)
    → Compacted (survivors (records_in used journal)) end journal r exit
    → Compacted (survivors (records_in used journal)) end journal s other
    → (r ≡ s) × (exit ≡ other)
keep_done_once journal used end r s exit other p q = once (survivors (records_in used journal)) end journal r s exit other p q
