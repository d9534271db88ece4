-- `map_store::begin::decide` meets its contract: a law for each way out. Assumes nothing.
use mathlib.Core.Path.{◌≡◌, sym, ◌∙◌}
use Prim.Native.Nat.{ℕ}
use lib.Count.{ones}
use Rattle.slot.specs.declared.Slots.{Slots}
use Rattle.slot.specs.Formed.{Formed}
use Rattle.slot.specs.Places.{places_of, occupied}
use Rattle.slot.specs.PlaceLaws.{occupied_places}
use Rattle.map_store.specs.Tests.{begin_many, begin_numbers, begin_begun}
use Rattle.map_store.proofs.begin.decide.Goals as goal

-- a slot that is occupied is a place that is taken
counted : (h : Slots) (r : ℕ) → Formed h → r ≡ ones h.occupied → r ≡ occupied (places_of h)
counted h r w e = e ∙ sym (occupied_places h w.byte)

pub returns-then-running-ge-SLOTS : goal.returns-then-running-ge-SLOTS
returns-then-running-ge-SLOTS c room cs = begin_many c.if-t-h.false c.if-h-t.false (counted c.args.h.slots _ c.requires c.running.ensures) c.if-running-ge-SLOTS.true

pub returns-then-h-ge-NO_NUMBER : goal.returns-then-h-ge-NO_NUMBER
returns-then-h-ge-NO_NUMBER c room cs = begin_numbers c.if-t-h.false c.if-h-t.false (counted c.args.h.slots _ c.requires c.running.ensures) c.if-running-ge-SLOTS.false c.if-h-ge-NO_NUMBER.true

pub returns : goal.returns
returns c room cs = begin_begun c.if-t-h.false c.if-h-t.false (counted c.args.h.slots _ c.requires c.running.ensures) c.if-running-ge-SLOTS.false c.if-h-ge-NO_NUMBER.false
