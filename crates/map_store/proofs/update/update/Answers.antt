-- `map_store::update::update` meets its contract: a law for each way out. Assumes nothing.
use mathlib.Core.Path.{◌≡◌, refl, sym, ◌∙◌}
use Prim.Native.Nat.{ℕ}
use lib.ListN.{set}
use Rattle.rules.specs.declared.Effect.{Effect}
use Rattle.std.specs.Prelude.{Option, Some}
use Rattle.answer.specs.declared.Refusal.TheVariants.{UnknownTransaction, BadKey, KeysFull}
use Rattle.slot.specs.declared.Slot.{Slot}
use Rattle.slot.specs.Slot.{noted}
use Rattle.slot.specs.Slots.{slot_at, slot_of}
use Rattle.map_store.specs.declared.MapHead.{MapHead}
use Rattle.map_store.specs.Heads.{with_slots, updated_head}
use Rattle.map_store.specs.Laws.{place_none, place_found, rowed_found, turned_down, carried_out}
use Rattle.map_store.specs.Tests.{update_unknown, update_key, update_full, update_fits}
use Rattle.map_store.proofs.update.update.Goals as goal

-- the slot that was found has the update noted
changed : (h : MapHead) (n k : ℕ) (x : Effect) {f : Option ℕ} → f ≡ slot_of h.slots n → {i : ℕ} → f ≡ Some i → {s : Slot} → s ≡ noted (slot_at h.slots i) k x
    → with_slots h (record { occupied = h.slots.occupied; slots = set h.slots.slots i s }) ≡ updated_head k x (slot_of h.slots n) h
changed h n k x e g es = rw (sym e ∙ g, es)

pub returns-in_default : goal.returns-in_default
returns-in_default c =
    let a = c.args in
    turned_down (sym c.shaped.ensures.value ∙ c.if-not-shaped.false) _ UnknownTransaction c.refused-in_default.ensures
    (update_unknown (place_none a.h.slots a.n c.in_default.ensures.value refl))

pub returns-then-k-eq0 : goal.returns-then-k-eq0
returns-then-k-eq0 c =
    let a = c.args in
    turned_down (sym c.shaped.ensures.value ∙ c.if-not-shaped.false) _ BadKey c.refused-then-k-eq0.ensures
    (update_key (place_found a.h.slots a.n c.in-Some.ensures.value refl) c.if-k-eq0.true)

pub is_full-requires : goal.is_full-requires
is_full-requires c =
    let a = c.args in
    rowed_found a.h.slots a.n c.in-Some.ensures.value refl (c.shaped.ensures.shaped c.if-not-shaped.false).formed

pub returns-then-is_full : goal.returns-then-is_full
returns-then-is_full c =
    let a = c.args in
    turned_down (sym c.shaped.ensures.value ∙ c.if-not-shaped.false) _ KeysFull c.refused-then-is_full.ensures
    (update_full (place_found a.h.slots a.n c.in-Some.ensures.value refl) c.if-k-eq0.false c.is_full.ensures c.if-is_full.true)

pub returns : goal.returns
returns c =
    let a = c.args in
    carried_out (sym c.shaped.ensures.value ∙ c.if-not-shaped.false) _ _ c.accepted.ensures
    (update_fits (place_found a.h.slots a.n c.in-Some.ensures.value refl) c.if-k-eq0.false c.is_full.ensures c.if-is_full.false)
    (changed a.h a.n a.k a.e c.in-Some.ensures.value refl c.note.ensures)
