-- Walks over the journal. A loop that goes up from 0 has the invariant that its state is a reading of the first i records;
-- `turn` is one turn of it, and `finish` its end. Assumes nothing.
use Rattle.std.specs.Prelude.{◌≡◌, List, ◌∷◌, ℕ, ◌+◌, ◌*◌}
use Rattle.std.proofs.Common.{ap, ◌∙◌, add-one}
use Rattle.rules.specs.declared.Record.{Record}
use Rattle.rules.specs.Kinds.{record_size}
use Rattle.record.specs.Bytes.{record_at, records_in}

-- a turn: where a step makes of a reading the reading of one record more, the step with record i makes of the reading of i records that of i + 1
pub turn : {A : Type 0} (reading : List Record → A) (step : Record → A → A)
    → ((r : Record) (rs : List Record) → step r (reading rs) ≡ reading (r ∷ rs))
    → (b : List ℕ) (i : ℕ) (r : Record) (old new : A) → new ≡ step r old → r ≡ record_at b (i * record_size) → old ≡ reading (records_in i b)
    → new ≡ reading (records_in (i + 1) b)
turn reading step law b i r old new e f g = rw add-one (e ∙ rw (f, g) (law (record_at b (i * record_size)) (records_in i b)))

-- the end: a walk that has come to n has the reading of n records
pub finish : {A : Type 0} (reading : List Record → A) (b : List ℕ) (i n : ℕ) (x : A) → x ≡ reading (records_in i b) → i ≡ n
    → x ≡ reading (records_in n b)
finish reading b i n x h e = h ∙ ap (λ (m : ℕ). reading (records_in m b)) e

-- the same of any statement: what holds of record i and those before it holds of the first i + 1
pub onward : (P : List Record → Type 0) (b : List ℕ) (i : ℕ) (r : Record) → r ≡ record_at b (i * record_size) → P (r ∷ records_in i b)
    → P (records_in (i + 1) b)
onward P b i r e h = rw add-one (rw e at h)

-- and its end
pub arrived : (P : List Record → Type 0) (b : List ℕ) (i n : ℕ) → P (records_in i b) → i ≡ n → P (records_in n b)
arrived P b i n h e = rw e at h
