-- `map_commit::commit` meets its contract: a law for each way out. Assumes nothing.
use mathlib.Core.Path.{◌≡◌, refl, sym, ◌∙◌}
use mathlib.Core.Bool.{true}
use Prim.Native.Nat.{ℕ}
use native.Mathlib.Omega.{arith}
use Rattle.std.specs.Prelude.{Option, Some}
use Rattle.answer.specs.declared.Refusal.TheVariants.{UnknownTransaction, NotLater, Conflict, NoRoom}
use Rattle.slot.specs.declared.Slots.{Slots}
use Rattle.slot.specs.Slots.{slot_at, slot_of, closed_in}
use Rattle.slot.specs.Formed.{Rowed}
use Rattle.slot.specs.Places.{slot_rows, place_of, places_of, taken_by}
use Rattle.slot.specs.RowLaws.{length_rows}
use Rattle.versions.specs.Versions.{Columns, columns}
use Rattle.versions.specs.Laws.{length_versions}
use Rattle.map_store.specs.declared.MapHead.{MapHead}
use Rattle.map_store.specs.Meaning.{firsts}
use Rattle.map_store.specs.Shape.{lengths, is_shaped, Shaped}
use Rattle.map_store.specs.ShapeLaws.{lent}
use Rattle.map_store.specs.Laws.{place_none, place_found, rowed_found}
use Rattle.map_store.specs.Tests.{commit_unknown, commit_later, commit_conflict, commit_room, commit_done}
use Rattle.map_commit.specs.Commit.{newest_in, Stamped, Put}
use Rattle.map_commit.specs.CommitLaws.{room_lent, commit_turned_down, commit_carried_out}
use Rattle.map_commit.specs.RowLaws.{length_firsts}
use Rattle.map_commit.proofs.commit.Goals as goal
use Rattle.map_commit.proofs.commit.Goals.{In-Some}

-- the rows that count are written, and the slot that was found is freed
freed : {n t : ℕ} {h : MapHead} {cs cs' : Columns} {f : Option ℕ} → f ≡ slot_of h.slots n → {i : ℕ} → f ≡ Some i → {r : ℕ}
    → Stamped (newest_in h.last h.used cs) t h.used (firsts (slot_rows (slot_at h.slots i))) cs cs' r → {z : Slots} → z ≡ closed_in h.slots i
    → Put n t h cs true (record { low = h.low; last = t; next = h.next; used = r; slots = z }) cs'
freed e g w q = record { headed = rw (sym e ∙ g, w.count, q); cells = rw (sym e ∙ g) w.cells }

-- Where a slot was found: the columns that were lent, and what the shape test and the search say
abbrev cells : In-Some → Columns
cells fo = let a = fo.args in columns a.keys.now a.times.now a.values.now a.marks.now

passes : (fo : In-Some) → is_shaped fo.args.h (lengths (cells fo)) ≡ true
passes fo = sym fo.shaped.ensures.value ∙ fo.if-not-shaped.false

good : (fo : In-Some) → Shaped fo.args.h (lengths (cells fo))
good fo = fo.shaped.ensures.shaped fo.if-not-shaped.false

place : (fo : In-Some) → place_of fo.args.n (places_of fo.args.h.slots) ≡ taken_by (slot_at fo.args.h.slots fo.in-Some.i)
place fo = place_found fo.args.h.slots fo.args.n fo.in-Some.ensures.value refl

rowed : (fo : In-Some) → Rowed (slot_at fo.args.h.slots fo.in-Some.i)
rowed fo = rowed_found fo.args.h.slots fo.args.n fo.in-Some.ensures.value refl (good fo).formed

pub returns-in_default : goal.returns-in_default
returns-in_default c =
    let a = c.args in
    commit_turned_down (sym c.shaped.ensures.value ∙ c.if-not-shaped.false) _ UnknownTransaction c.refused-in_default.ensures
    (commit_unknown (place_none a.h.slots a.n c.in_default.ensures.value refl))

pub returns-then-t-h : goal.returns-then-t-h
returns-then-t-h c = commit_turned_down (passes (goal.at.returns-then-t-h c).In-Some) _ NotLater c.refused-then-t-h.ensures (commit_later (place (goal.at.returns-then-t-h c).In-Some) c.if-t-h.true)

pub new-requires : goal.new-requires
new-requires c =
    let l = lent c.args.h (cells (goal.at.new-requires c).In-Some) (good (goal.at.new-requires c).In-Some) in
    (l.keys, l.times)

pub invariant_of-written : goal.invariant_of-written
invariant_of-written c = record { rowed = rowed (goal.at.invariant_of-written c).In-Some }

pub conflicts-requires : goal.conflicts-requires
conflicts-requires c =
    let l = lent c.args.h (cells (goal.at.conflicts-requires c).In-Some) (good (goal.at.conflicts-requires c).In-Some) in
    rw c.new.ensures.2 l.marks

pub returns-then-conflicts : goal.returns-then-conflicts
returns-then-conflicts c =
    commit_turned_down (passes (goal.at.returns-then-conflicts c).In-Some) _ Conflict c.refused-then-conflicts.ensures
    (commit_conflict (place (goal.at.returns-then-conflicts c).In-Some) c.if-t-h.false (rw (c.new.ensures.0, c.new.ensures.1, c.new.ensures.2) at (c.conflicts.ensures (cells (goal.at.returns-then-conflicts c).In-Some).values)) c.if-conflicts.true)

pub overflow_add-h : goal.overflow_add-h
overflow_add-h c =
    let s = slot_at c.args.h.slots c.in-Some.i in
    omega (arith, c.count.ensures, length_firsts (slot_rows s), length_rows s.keys s.values s.marks s.count, (rowed (goal.at.overflow_add-h c).In-Some).count, (good (goal.at.overflow_add-h c).In-Some).limit)

pub returns-then-room-h : goal.returns-then-room-h
returns-then-room-h c =
    commit_turned_down (passes (goal.at.returns-then-room-h c).In-Some) _ NoRoom c.refused-then-room-h.ensures
    (commit_room (place (goal.at.returns-then-room-h c).In-Some) c.if-t-h.false (rw (c.new.ensures.0, c.new.ensures.1, c.new.ensures.2) at (c.conflicts.ensures (cells (goal.at.returns-then-room-h c).In-Some).values)) c.if-conflicts.false (length_versions c.args.h.used (cells (goal.at.returns-then-room-h c).In-Some))
    c.count.ensures (rw c.room.ensures at c.if-room-h.true))

pub stamp-used-requires : goal.stamp-used-requires
stamp-used-requires c = ((good (goal.at.stamp-used-requires c).In-Some).limit, room_lent c.args.h (cells (goal.at.stamp-used-requires c).In-Some) (good (goal.at.stamp-used-requires c).In-Some) _ (rw (c.room.ensures, c.count.ensures) at c.if-room-h.false))

pub returns : goal.returns
returns c =
    commit_carried_out (passes (goal.at.returns c).In-Some)
    (commit_done (place (goal.at.returns c).In-Some) c.if-t-h.false (rw (c.new.ensures.0, c.new.ensures.1, c.new.ensures.2) at (c.conflicts.ensures (cells (goal.at.returns c).In-Some).values)) c.if-conflicts.false (length_versions c.args.h.used (cells (goal.at.returns c).In-Some))
    c.count.ensures (rw c.room.ensures at c.if-room-h.false))
    (freed c.in-Some.ensures.value refl c.stamp-used.ensures c.closed.ensures)
