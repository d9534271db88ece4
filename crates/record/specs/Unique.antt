-- No second answer satisfies the contract of a public function, nor a second buffer at exit. Assumes nothing.
use Rattle.std.specs.Prelude.{◌≡◌, List, ◌++◌, ℕ, ◌*◌, drop}
use Rattle.std.proofs.Common.{sym, ap, ◌∙◌}
use Rattle.rules.specs.declared.Record.{Record}
use Rattle.rules.specs.Kinds.{record_size}
use Rattle.record.specs.declared.Width.{Width}
use Rattle.record.specs.declared.Records.{Records}
use Rattle.record.specs.Bytes.{Field, record_at, records_in, bytes_of, appended}
use Rattle.record.specs.Records.{records_of}

-- Records::new, and Records::first: the bytes and how many, and so the records
pub records_once : (bytes : List ℕ) (used : ℕ) (r s : Records) → (r.bytes.now ≡ bytes) × (r.used ≡ used) → (s.bytes.now ≡ bytes) × (s.used ≡ used)
    → ((r.bytes.now ≡ s.bytes.now) × (r.used ≡ s.used)) × (records_of r ≡ records_of s)
records_once bytes used r s (pb, pu) (qb, qu) =
    let b : r.bytes.now ≡ s.bytes.now = pb ∙ sym qb in
    let u : r.used ≡ s.used = pu ∙ sym qu in
    ((b, u), ap (λ (n : ℕ). records_in n r.bytes.now) u ∙ ap (records_in s.used) b)

-- Records::at: the record
pub at_once : (records : Records) (place : ℕ) (r s : Record)
    → r ≡ record_at records.bytes.now (place * record_size) → s ≡ record_at records.bytes.now (place * record_size) → r ≡ s
at_once records place r s p q = p ∙ sym q

-- field: the number
pub field_once : (bytes : List ℕ) (at : ℕ) (width : Width) (r s : ℕ) → Field bytes at width r → Field bytes at width s → r ≡ s
field_once bytes at width r s p q = p.value ∙ sym q.value

-- read: the record
pub read_once : (journal : List ℕ) (place : ℕ) (r s : Record)
    → r ≡ record_at journal (place * record_size) → s ≡ record_at journal (place * record_size) → r ≡ s
read_once journal place r s p q = p ∙ sym q

-- write: the unused end at exit
pub write_once : (unused : List ℕ) (r : Record) (exit other : List ℕ)
    → exit ≡ bytes_of r ++ drop record_size unused → other ≡ bytes_of r ++ drop record_size unused → exit ≡ other
write_once unused r exit other p q = p ∙ sym q

-- append: the journal at exit
pub append_once : (journal : List ℕ) (used : ℕ) (r : Record) (exit other : List ℕ)
    → exit ≡ appended journal used r → other ≡ appended journal used r → exit ≡ other
append_once journal used r exit other p q = p ∙ sym q
