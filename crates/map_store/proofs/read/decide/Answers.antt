-- `map_store::read::decide` meets its contract: a law for each way out; what is read is what the transaction's place says. Assumes nothing.
use mathlib.Core.Path.{◌≡◌, refl, sym, ap, ◌∙◌}
use Prim.Native.Nat.{ℕ}
use Rattle.rules.specs.Value.{Value}
use Rattle.slot.specs.declared.Slot.{Slot}
use Rattle.slot.specs.Places.{taken_by, slot_rows, place_of}
use Rattle.map_store.specs.Meaning.{MapStore, current, read_refusal, read_in}
use Rattle.map_store.specs.Lent.{meant}
use Rattle.map_store.specs.Laws.{place_none, place_found, rowed_found}
use Rattle.map_store.specs.Tests.{say, say_value, read_unknown, read_key, read_done}
use Rattle.map_store.proofs.read.decide.Goals as goal

reads : (m : MapStore) (n k : ℕ) (s : Slot) → place_of n m.places ≡ taken_by s → (v : Value) → v ≡ current k s.snapshot (slot_rows s) m.versions
    → v ≡ read_in n k m
reads m n k s p v d = rw p d

pub returns-then-k-eq0 : goal.returns-then-k-eq0
returns-then-k-eq0 c =
    let a = c.args in
    let m = meant a.store in
    say 3 (read_refusal a.n a.k m) (read_in a.n a.k m)
    (read_key m a.n a.k _ _ _ (place_found a.store.head.now.slots a.n c.in-Some.ensures.value refl) c.if-k-eq0.true)

pub current_value-requires : goal.current_value-requires
current_value-requires c =
    let l = c.args.store in
    (rw c.at-s.ensures (rowed_found l.head.now.slots c.args.n c.in-Some.ensures.value refl l.formed), l.valued)

pub returns : goal.returns
returns c =
    let a = c.args in
    let m = meant a.store in
    let p = place_found a.store.head.now.slots a.n c.in-Some.ensures.value refl in
    say_value (read_refusal a.n a.k m) _ (read_in a.n a.k m)
    (reads m a.n a.k c.at-s.result (p ∙ ap taken_by (sym c.at-s.ensures)) _ (c.current_value.ensures a.store.marks.now))
    (read_done m a.n a.k _ _ _ p c.if-k-eq0.false)

pub returns-in_default : goal.returns-in_default
returns-in_default c =
    let a = c.args in
    let m = meant a.store in
    say 2 (read_refusal a.n a.k m) (read_in a.n a.k m)
    (read_unknown m a.n a.k (place_none a.store.head.now.slots a.n c.in_default.ensures.value refl))
