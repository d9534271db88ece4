-- `map_commit::Written::conflicts` meets its contract: the loop's invariant is that none of the first i rows clashes. Assumes nothing.
use mathlib.Core.Path.{◌≡◌, sym, ◌∙◌}
use mathlib.Core.Bool.{Bool, true}
use mathlib.Core.List.{List}
use Prim.Native.Nat.{ℕ, ◌+◌, ◌<◌}
use lib.ListN.{get_or}
use Rattle.rules.specs.declared.Effect.{Effect}
use Rattle.rules.specs.Effects.{is_add}
use Rattle.slot.specs.declared.Slot.{Slot}
use Rattle.slot.specs.Slot.{effect_at}
use Rattle.versions.specs.declared.Version.{Version}
use Rattle.versions.specs.Versions.{later}
use Rattle.versions.specs.Stamps.{versions_in}
use Rattle.map_store.specs.Meaning.{firsts, clash}
use Rattle.map_commit.specs.Commit.{rows_to, is_first}
use Rattle.map_commit.specs.RowLaws.{clash_here, clash_among}
use native.Mathlib.Omega.{arith}
use Rattle.map_commit.proofs.Written.conflicts.Goals as goal

module _ (s : Slot) (versions : List Version) (i : ℕ) (f : Bool) (g : f ≡ is_first s i) where
  module _ (first : f ≡ true) (x : Effect) (p : x ≡ effect_at s i) (adds : Bool) (q : adds ≡ is_add x) (b : Bool)
      (e : b ≡ later s.snapshot (get_or s.keys i 0) adds versions) where
    met : later s.snapshot (get_or s.keys i 0) (is_add (effect_at s i)) versions ≡ b
    met = rw (← p, ← q) (sym e)

    hit : (n : ℕ) → i < n → b ≡ true → true ≡ clash s.snapshot (firsts (rows_to s n)) versions
    hit n l t = sym (clash_among s s.snapshot versions (i + 1) n (omega arith) (clash_here s s.snapshot versions i (sym g ∙ first) (met ∙ t)))

pub returns-then-is_later : goal.returns-then-is_later
returns-then-is_later c values =
    let a = c.args in
    hit a.self.slot.now (versions_in a.stamps values a.marks.now) c.loop-i.i _ c.is_first.ensures c.if-is_first.true
    _ c.effect-e.ensures _ c.adds.ensures _ (c.is_later.ensures values) a.self.slot.now.count c.loop-i-test.true c.if-is_later.true
