-- Section 4: the 24 bytes of a record, the records that bytes spell, and the bytes with one record more. Assumes nothing.
use Rattle.std.specs.Prelude.{◌≡◌, List, [], ◌∷◌, ◌++◌, ℕ, zero, suc, ◌+◌, ◌*◌, ◌/◌, ◌%◌, ◌^◌, ◌<◌, length, take, drop, get_or}
use Rattle.rules.specs.declared.Record.{Record}
use Rattle.rules.specs.Kinds.{record_size}
use Rattle.record.specs.declared.Width.{Width}
use Rattle.record.specs.declared.Width.TheVariants.{Four, Eight}

-- every element is a byte
abbrev pub Bytes : List ℕ → Type 0
Bytes bs = (i : ℕ) → i < length bs → get_or bs i 0 < 256

-- the number that little-endian bytes spell
abbrev pub le : List ℕ → ℕ
le [] = 0
le (b ∷ bs) = le bs * 256 + b

-- the number of a width that starts at a byte
abbrev pub field_at : List ℕ → ℕ → ℕ → ℕ
field_at bytes at width = le (take width (drop at bytes))

-- how many bytes a width has
abbrev pub width_of : Width → ℕ
width_of Four = 4
width_of Eight = 8

-- r is the number that starts at a byte, and fits its width
pub record Field (bytes : List ℕ) (at : ℕ) (width : Width) (r : ℕ) : Type 0 where
  pub value : r ≡ field_at bytes at (width_of width)
  pub small : r < 2 ^ (8 * width_of width)

-- the record that starts at a byte
abbrev pub record_at : List ℕ → ℕ → Record
record_at bytes at =
    record {
      kind = field_at bytes at 1;
      zeros = field_at bytes (at + 1) 3;
      transaction = field_at bytes (at + 4) 4;
      key = field_at bytes (at + 8) 4;
      value = field_at bytes (at + 12) 4;
      time = field_at bytes (at + 16) 8;
    }

-- the first n records, the newest first
abbrev pub records_in : ℕ → List ℕ → List Record
records_in zero bytes = []
records_in (suc n) bytes = record_at bytes (n * record_size) ∷ records_in n bytes

-- the lowest bytes of v, as many as the width, the lowest first
abbrev pub le_bytes : ℕ → ℕ → List ℕ
le_bytes zero v = []
le_bytes (suc width) v = v % 256 ∷ le_bytes width (v / 256)

-- the 24 bytes of a record
abbrev pub bytes_of : Record → List ℕ
bytes_of r =
    le_bytes 1 r.kind
    ++ (le_bytes 3 r.zeros
    ++ (le_bytes 4 r.transaction ++ (le_bytes 4 r.key ++ (le_bytes 4 r.value ++ le_bytes 8 r.time))))

-- b with the lowest bytes of v at a place
abbrev pub written : List ℕ → ℕ → ℕ → ℕ → List ℕ
written b at width v = take at b ++ (le_bytes width v ++ drop (at + width) b)

-- the journal's bytes with a record behind the first n
abbrev pub appended : List ℕ → ℕ → Record → List ℕ
appended b n r = take (n * record_size) b ++ (bytes_of r ++ drop (n * record_size + record_size) b)

-- the bytes of records, the newest first, in the order of the journal
abbrev pub laid : List Record → List ℕ
laid [] = []
laid (r ∷ older) = laid older ++ bytes_of r
