-- Rule 3.8, one slot: number, snapshot, count, and a row for each key with what its updates come to. Assumes nothing.
use Rattle.std.specs.Prelude.{cond, ℕ, ◌+◌, ltb, get_or, take, set, replicate, Option, Some, None}
use Rattle.rules.specs.declared.Effect.{Effect}
use Rattle.rules.specs.Effects.{joined, mark_of, amount_of, effect_by}
use Rattle.rules.specs.Limits.{most_keys}
use Rattle.column.specs.Column.{first_row}
use Rattle.slot.specs.declared.Slot.{Slot}

-- a new slot is all zero but for number and snapshot
abbrev pub opened_slot : ℕ → ℕ → Slot
opened_slot n s =
    record {
      number = n;
      snapshot = s;
      count = 0;
      keys = replicate most_keys 0;
      values = replicate most_keys 0;
      marks = replicate most_keys 0;
    }

-- a freed slot is all zero
abbrev pub empty_slot : Slot
empty_slot = opened_slot 0 0

-- the row of a key: of one key twice in a slot the first
abbrev pub key_row : Slot → ℕ → Option ℕ
key_row s k = first_row k (take s.count s.keys)

-- the effect in row i
abbrev pub effect_at : Slot → ℕ → Effect
effect_at s i = effect_by (get_or s.marks i 0) (get_or s.values i 0)

-- a row's effect replaced
abbrev pub refilled : Slot → ℕ → Effect → Slot
refilled s i e =
    record {
      number = s.number;
      snapshot = s.snapshot;
      count = s.count;
      keys = s.keys;
      values = set s.values i (amount_of e);
      marks = set s.marks i (mark_of e);
    }

-- a new row behind the others
abbrev pub extended : Slot → ℕ → Effect → Slot
extended s k e =
    record {
      number = s.number;
      snapshot = s.snapshot;
      count = s.count + 1;
      keys = set s.keys s.count k;
      values = set s.values s.count (amount_of e);
      marks = set s.marks s.count (mark_of e);
    }

-- the row that was found takes an effect up, or a new one gets it if there is room
abbrev pub noted_at : Option ℕ → Slot → ℕ → Effect → Slot
noted_at (Some i) s k e = refilled s i (joined (effect_at s i) e)
noted_at None s k e = cond (ltb s.count most_keys) (extended s k e) s

-- an update noted: the effect e on key k
abbrev pub noted : Slot → ℕ → Effect → Slot
noted s k e = noted_at (key_row s k) s k e
