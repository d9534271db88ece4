-- The journal store as it is lent: its shape, its room, what it means, and the numbers that a call is given. Assumes nothing.
use Rattle.std.specs.Prelude.{◌≡◌, Bool, not, ◌&&◌, List, ℕ, ◌*◌, ◌/◌, ◌^◌, ◌<◌, ◌≤◌, min, eqb, leb}
use Rattle.rules.specs.Limits.{most_records, most_rows}
use Rattle.rules.specs.Kinds.{record_size}
use Rattle.rules.specs.Effects.{amount_of}
use Rattle.rules.specs.Columns.{first_rows}
use Rattle.rules.specs.Calls.{Store, Call, Begin, Update, Abort, Commit}
use Rattle.record.specs.Bytes.{records_in}
use Rattle.journal.specs.Kinds.{empty_base, empty_journal}
use Rattle.journal_store.specs.declared.Head.{Head}

-- low 0, floor 1, no rows, no records
abbrev pub empty_head : Head
empty_head = record { low = 0; floor = 1; base = empty_base; journal = empty_journal }

-- section 6, number 1: base rows and used records within limit and room, paired columns of one length, floor not 0
abbrev pub is_shaped : Head → ℕ → ℕ → ℕ → Bool
is_shaped h keys values bytes =
    leb h.base.rows most_rows
    && (leb h.base.rows keys
    && (eqb keys values && (leb h.journal.used most_records && (leb h.journal.used (bytes / record_size) && not (eqb h.floor 0)))))

-- how many records fit into so many bytes, and how many rows into columns of such a length
abbrev pub room_of : ℕ → ℕ
room_of bytes = min most_records (bytes / record_size)

abbrev pub row_room : ℕ → ℕ
row_room rows = min most_rows rows

-- what the lent cells mean: the used rows of the base, and the used records of the journal, the newest first
abbrev pub meaning : Head → List ℕ → List ℕ → List ℕ → Store
meaning h keys values journal =
    record {
      low = h.low;
      floor = h.floor;
      base = first_rows h.base.rows keys values;
      records = records_in h.journal.used journal;
    }

-- what a good shape says
pub record Shaped (h : Head) (keys values bytes : ℕ) : Type 0 where
  pub rows_limit : h.base.rows ≤ most_rows
  pub rows : h.base.rows ≤ keys
  pub paired : keys ≡ values
  pub used_limit : h.journal.used ≤ most_records
  pub used : h.journal.used * record_size ≤ bytes
  pub floored : h.floor ≡ 0 → ⊥

-- what a call is given fits the numbers of section 2
pub record Sized (n k v t : ℕ) : Type 0 where
  pub transaction : n < 2 ^ 32
  pub key : k < 2 ^ 32
  pub value : v < 2 ^ 32
  pub time : t < 2 ^ 64

abbrev pub SizedCall : Call → Type 0
SizedCall (Begin t) = Sized 0 0 0 t
SizedCall (Update n k e) = Sized n k (amount_of e) 0
SizedCall (Abort n) = Sized n 0 0 0
SizedCall (Commit n t) = Sized n 0 0 t
