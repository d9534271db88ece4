-- `walk::State::step` meets its contract: a case for each kind that counts. Assumes nothing.
use mathlib.Core.Path.{◌≡◌}
use Prim.Native.Nat.{◌+◌}
use Rattle.rules.specs.declared.Record.{Record}
use Rattle.walk.specs.declared.State.{State}
use Rattle.walk.specs.Walk.{pushed, Without, Stepped}
use Rattle.walk.specs.Laws.{begins, commits, aborts, others}
use native.Mathlib.Omega.{arith}
use Rattle.walk.proofs.State.step.Goals as goal

module _ (s : State) (r : Record) where
  begun : (next : State) → next ≡ pushed s r.transaction r.time → r.kind ≡ 1
      → Stepped s r
      (record { last = next.last; above = r.transaction + 1; count = next.count; numbers = next.numbers; snapshots = next.snapshots })
  begun next e k low rs h j = rw e (begins low rs r s h j k)

  committed : (next : State) → Without s r.transaction s.count next → r.kind ≡ 4
      → Stepped s r (record { last = r.time; above = next.above; count = next.count; numbers = next.numbers; snapshots = next.snapshots })
  committed next w k low rs h j = commits low rs r s h j k next w

  aborted : (next : State) → Without s r.transaction s.count next → r.kind ≡ 5 → Stepped s r next
  aborted next w k low rs h j = aborts low rs r s h j k next w

  unchanged : (r.kind ≡ 1 → ⊥) → (r.kind ≡ 4 → ⊥) → (r.kind ≡ 5 → ⊥) → Stepped s r s
  unchanged x y z low rs h j = others low rs r s h j x y z

pub returns-in-1 : goal.returns-in-1
returns-in-1 c =
    let a = c.args in
    begun a.self a.r c.push.result c.push.ensures c.in-1.is

pub returns-in-4 : goal.returns-in-4
returns-in-4 c =
    let a = c.args in
    committed a.self a.r c.without.result c.without.ensures c.in-4.is

pub returns-in-5 : goal.returns-in-5
returns-in-5 c =
    let a = c.args in
    aborted a.self a.r c.without-in-5.result c.without-in-5.ensures c.in-5.is

pub returns-in_default : goal.returns-in_default
returns-in_default c =
    let a = c.args in
    unchanged a.self a.r (λ e. omega (arith, e)) (λ e. omega (arith, e)) (λ e. omega (arith, e))
