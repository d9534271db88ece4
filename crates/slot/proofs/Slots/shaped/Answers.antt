-- `Slots::shaped` meets its contract: where no occupied slot is overfull, the rows of all are in order.
use Rattle.std.proofs.Common.{◌≡◌, ℕ, List, length, map, ◌<◌, rules, None, sym, ◌∙◌, ltb-false}
use Rattle.std.proofs.Math.ListN.{length-map}
use Rattle.slot.specs.Slots.{is_overfull, first_slot, slot_at}
use Rattle.slot.specs.BitLaws.{bit_below}
use Rattle.slot.proofs.Walk.{none_met}
use Rattle.slot.proofs.Slots.shaped.Goals as goal

-- an array of structs is known by the list of what its elements are made of
mapped : {X Y : Type 0} (f : X → Y) (l : List X) (n : ℕ) → length (map f l) ≡ n → length l ≡ n
mapped f l n e = rw length-map at e

pub returns-clause-formed : goal.returns-clause-formed
returns-clause-formed c e =
    let a = c.args in
    let byte : a.self.occupied < 256 = search rules in
    let none : c.first.result ≡ None = search (rules, e) in
    let lowest : c.first.result ≡ first_slot is_overfull a.self = search (rules, c.first.ensures.lowest) in
    record {
      byte = byte;
      eight = search (rules, mapped);
      rowed =
          λ i t.
          let l = bit_below 8 i a.self.occupied t byte in
          c.first.ensures.passed none i l t (ltb-false 32 (slot_at a.self i).count (rw t at (none_met is_overfull a.self (sym lowest ∙ none) i l)));
    }
