-- `map_store::current_value` meets its contract: what the row found makes of the value at the snapshot, or that value. Assumes nothing.
use mathlib.Core.Path.{◌≡◌, refl, sym, ◌∙◌}
use mathlib.Core.List.{List}
use Prim.Native.Nat.{ℕ}
use Rattle.rules.specs.declared.Effect.{Effect}
use Rattle.rules.specs.Value.{Value}
use Rattle.rules.specs.Effects.{applied}
use Rattle.std.specs.Prelude.{Option, Some, None}
use Rattle.slot.specs.declared.Slot.{Slot}
use Rattle.slot.specs.Slot.{key_row, effect_at}
use Rattle.slot.specs.Formed.{Rowed}
use Rattle.slot.specs.Places.{slot_rows}
use Rattle.slot.specs.RowLaws.{makes_row}
use Rattle.versions.specs.declared.Version.{Version}
use Rattle.versions.specs.Versions.{columns, versions_of, value_at}
use Rattle.map_store.specs.Meaning.{current}
use Rattle.map_store.proofs.current_value.Goals as goal

module _ (s : Slot) (w : Rowed s) (k : ℕ) (vs : List Version) (f : Option ℕ) (e : f ≡ key_row s k) (v : Value) where
  own : (i : ℕ) → f ≡ Some i → (x : Effect) → x ≡ effect_at s i → v ≡ applied x (value_at k s.snapshot vs) → v ≡ current k s.snapshot (slot_rows s) vs
  own i g x p d = rw (makes_row s w k, sym e ∙ g, ← p) d

  seen : f ≡ None → v ≡ value_at k s.snapshot vs → v ≡ current k s.snapshot (slot_rows s) vs
  seen g d = rw (makes_row s w k, sym e ∙ g) d

pub returns-in-Some : goal.returns-in-Some
returns-in-Some c marks =
    let a = c.args in
    let cs = columns a.stamps.keys.now a.stamps.times.now a.values.now marks in
    own a.s c.requires.0 a.k (versions_of a.stamps.used cs) _ c.in-Some.ensures.value _ _ refl _ c.effect-e.ensures (c.applied_at.ensures marks)

pub returns-in-None : goal.returns-in-None
returns-in-None c marks =
    let a = c.args in
    let cs = columns a.stamps.keys.now a.stamps.times.now a.values.now marks in
    seen a.s c.requires.0 a.k (versions_of a.stamps.used cs) _ c.in-None.ensures.value _ refl (c.value_at.ensures marks)
