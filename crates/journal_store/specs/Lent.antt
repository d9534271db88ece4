-- A store as a call reads it: what it means, its room, and what it is made from. Assumes nothing.
use Rattle.std.specs.Prelude.{◌≡◌, true, false, List, ℕ, length, Result, MatchResult}
use Rattle.rules.specs.Calls.{Store}
use Rattle.record.specs.Records.{records_of}
use Rattle.values.specs.Base.{base_rows}
use Rattle.answer.specs.declared.Refusal.{Refusal}
use Rattle.answer.specs.declared.Refusal.TheVariants.{BadShape}
use Rattle.journal_store.specs.declared.Head.{Head}
use Rattle.journal_store.specs.declared.store.Store.{Store as Lent}
use Rattle.journal_store.specs.Shape.{is_shaped, room_of}

-- what it means
abbrev pub meant : Lent → Store
meant l = record { low = l.low; floor = l.floor; base = base_rows l.base; records = records_of l.records }

-- how many records its bytes have room for
abbrev pub room_in : Lent → ℕ
room_in l = room_of (length l.records.bytes.now)

-- a store that is made of a head and cells of good shape
pub record MadeOf (h : Head) (keys values j : List ℕ) (l : Lent) : Type 0 where
  pub shaped : is_shaped h (length keys) (length values) (length j) ≡ true
  pub low : l.low ≡ h.low
  pub floor : l.floor ≡ h.floor
  pub rows : l.base.count ≡ h.base.rows
  pub keys_column : l.base.keys.now ≡ keys
  pub values_column : l.base.values.now ≡ values
  pub used : l.records.used ≡ h.journal.used
  pub cells : l.records.bytes.now ≡ j

-- a head and cells of bad shape make none
pub record Misshapen (h : Head) (keys values j : List ℕ) (e : Refusal) : Type 0 where
  pub shaped : is_shaped h (length keys) (length values) (length j) ≡ false
  pub refusal : e ≡ BadShape

-- a store where the shape is good, refused for its shape where it is bad
abbrev pub Opened : Head → List ℕ → List ℕ → List ℕ → Result Lent Refusal → Type 0
Opened h keys values j r = MatchResult r (MadeOf h keys values j) (Misshapen h keys values j)
