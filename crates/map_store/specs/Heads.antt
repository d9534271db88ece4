-- What accepted calls make of the head and of the version columns, cell by cell. Assumes nothing.
use Rattle.std.specs.Prelude.{List, [], ◌∷◌, ℕ, ◌+◌, length, Option, Some, None}
use Rattle.rules.specs.declared.Effect.{Effect}
use Rattle.rules.specs.Value.{Value}
use Rattle.rules.specs.Calls.{Call, Begin, Update, Abort, Commit}
use Rattle.slot.specs.declared.Slots.{Slots}
use Rattle.slot.specs.Slots.{slot_of, opened_in, noted_in, closed_in}
use Rattle.slot.specs.Places.{Note, place_in}
use Rattle.versions.specs.declared.Version.{Version}
use Rattle.versions.specs.Versions.{Columns, kept_from}
use Rattle.versions.specs.Columns.{with_version}
use Rattle.map_store.specs.declared.MapHead.{MapHead}
use Rattle.map_store.specs.Meaning.{rows_at, version_of}

-- other slots in a head
abbrev pub with_slots : MapHead → Slots → MapHead
with_slots h s = record { low = h.low; last = h.last; next = h.next; used = h.used; slots = s }

-- begin: a new transaction in the lowest free slot, and the next number is one more
abbrev pub begun_head : ℕ → MapHead → MapHead
begun_head t h =
    record { low = h.low; last = h.last; next = h.next + 1; used = h.used; slots = opened_in h.slots h.next t }

-- update: it is noted in the slot that was found
abbrev pub updated_head : ℕ → Effect → Option ℕ → MapHead → MapHead
updated_head k e (Some i) h = with_slots h (noted_in h.slots i k e)
updated_head k e None h = h

-- abort: the slot that was found is freed
abbrev pub aborted_head : Option ℕ → MapHead → MapHead
aborted_head (Some i) h = with_slots h (closed_in h.slots i)
aborted_head None h = h

-- the rows that the slot that was found gives a commit
abbrev pub rows_in : Slots → Option ℕ → List Note
rows_in s f = rows_at (place_in s f)

-- commit: last is the commit time, the rows are counted, and the slot is freed
abbrev pub committed_head : ℕ → Option ℕ → MapHead → MapHead
committed_head t (Some i) h =
    record { low = h.low; last = t; next = h.next; used = h.used + length (rows_in h.slots (Some i)); slots = closed_in h.slots i }
committed_head t None h = h

-- what an accepted call makes of the head
abbrev pub head_after : Call → MapHead → MapHead
head_after (Begin t) h = begun_head t h
head_after (Update n k e) h = updated_head k e (slot_of h.slots n) h
head_after (Abort n) h = aborted_head (slot_of h.slots n) h
head_after (Commit n t) h = committed_head t (slot_of h.slots n) h

-- columns whose first n rows are used, with a version at t for each of some rows behind these, the oldest first
abbrev pub stamped : (ℕ → Value) → ℕ → ℕ → List Note → Columns → Columns
stamped newest n t [] cs = cs
stamped newest n t (r ∷ older) cs = with_version (n + length older) (version_of newest t r) (stamped newest n t older cs)

-- checkpoint: low is T, and the versions kept are counted
abbrev pub kept_head : ℕ → MapHead → List Version → MapHead
kept_head T h vs = record { low = T; last = h.last; next = h.next; used = length (kept_from T vs); slots = h.slots }
