-- `Slots::opened` meets its contract: the one slot is what `Slot::open` hands back, and the mask sets its bit.
use mathlib.Core.Path.{◌≡◌}
use Prim.Native.Nat.{ℕ, ◌*◌, ◌%◌, ◌^◌, ◌<◌}
use borrow.Author.Tests.{lt-ltb}
use lib.Bits.{bit_or}
use lib.ListN.{set}
use Rattle.slot.specs.declared.Slots.{Slots}
use Rattle.slot.specs.Slot.{opened_slot}
use Rattle.slot.specs.Slots.{lowest_free, opened_in}
use Rattle.slot.proofs.Masks.{one_bit, masked_one}
use Rattle.slot.proofs.Slots.opened.Goals as goal

module _ (h : Slots) (number snapshot i : ℕ) (e : i ≡ lowest_free h) where
  free : i < 8
      → ◌≡◌ {A = Slots} (record { occupied = bit_or h.occupied (1 * 2 ^ i % 256); slots = set h.slots i (opened_slot number snapshot) }) (opened_in h number snapshot)
  free l = rw (← e, lt-ltb i 8 l, one_bit i l, masked_one i h.occupied)

pub returns : goal.returns
returns c =
    let a = c.args in
    rw c.«open».ensures (free a.self a.number a.snapshot _ c.lowest_free-i.ensures c.if-i-ge-SLOTS.false)
