-- `map_store::abort::abort` meets its contract: a law for each way out. Assumes nothing.
use mathlib.Core.Path.{◌≡◌, refl, sym, ◌∙◌}
use Prim.Native.Nat.{ℕ}
use Rattle.std.specs.Prelude.{Option, Some}
use Rattle.answer.specs.declared.Refusal.TheVariants.{UnknownTransaction}
use Rattle.slot.specs.declared.Slots.{Slots}
use Rattle.slot.specs.Slots.{slot_of, closed_in}
use Rattle.map_store.specs.declared.MapHead.{MapHead}
use Rattle.map_store.specs.Heads.{with_slots, aborted_head}
use Rattle.map_store.specs.Laws.{place_none, place_found, turned_down, carried_out}
use Rattle.map_store.specs.Tests.{abort_unknown, abort_done}
use Rattle.map_store.proofs.abort.abort.Goals as goal

-- the slot that was found is freed
freed : (h : MapHead) (n : ℕ) {f : Option ℕ} → f ≡ slot_of h.slots n → {i : ℕ} → f ≡ Some i → {s : Slots} → s ≡ closed_in h.slots i
    → with_slots h s ≡ aborted_head (slot_of h.slots n) h
freed h n e g d = rw (sym e ∙ g, d)

pub returns-in-Some : goal.returns-in-Some
returns-in-Some c =
    let a = c.args in
    carried_out (sym c.shaped.ensures.value ∙ c.if-not-shaped.false) _ _ c.accepted.ensures
    (abort_done (place_found a.h.slots a.n c.in-Some.ensures.value refl))
    (freed a.h a.n c.in-Some.ensures.value refl c.closed.ensures)

pub returns-in-None : goal.returns-in-None
returns-in-None c =
    let a = c.args in
    turned_down (sym c.shaped.ensures.value ∙ c.if-not-shaped.false) _ UnknownTransaction c.refused-in-None.ensures
    (abort_unknown (place_none a.h.slots a.n c.in-None.ensures.value refl))
