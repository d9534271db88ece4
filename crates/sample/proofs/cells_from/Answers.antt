-- `sample::cells_from` meets its contract. Assumes nothing.
use mathlib.Core.Path.{◌≡◌}
use mathlib.Core.List.{List, ◌++◌}
use Prim.Native.Nat.{ℕ, suc, ◌+◌, ◌-◌, ◌≤◌, ◌<◌}
use native.Mathlib.Omega.{arith}
use lib.ListN.{length, take, set, length-set}
use Rattle.sample.specs.Sample.{cells_from}
use Rattle.sample.proofs.Laid.{laid, all_laid}
use Rattle.sample.proofs.cells_from.Goals as goal

module _ {A : Type 0} (f : ℕ → A) (cells whole : List A) (n i : ℕ) where
  turn : i < 32 → length cells ≡ 32 → take i cells ++ cells_from f (n + i) (32 - i) ≡ whole
      → take (i + 1) (set cells i (f (n + i))) ++ cells_from f (n + (i + 1)) (32 - (i + 1)) ≡ whole
  unfolding cells_from
  turn l k e =
      let w : 32 - i ≡ suc (32 - (i + 1)) = omega arith in
      let v : n + (i + 1) ≡ n + i + 1 = omega arith in
      rw v (laid cells i (f (n + i)) (cells_from f (n + i + 1) (32 - (i + 1))) whole (omega arith) (rw w at e))

  finish : 32 ≤ i → length cells ≡ 32 → take i cells ++ cells_from f (n + i) (32 - i) ≡ whole → cells ≡ whole
  unfolding cells_from
  finish l k e =
      let w : 32 - i ≡ 0 = omega arith in
      all_laid cells i whole (omega arith) (rw w at e)

pub loop-i-preserved : goal.loop-i-preserved
loop-i-preserved g c =
    let l = c.loop-i in (
      simp length-set l.invariant.0,
      rw c.placed.ensures (turn g.T.Placed.placed l.cells _ c.args.place l.i c.loop-i-test.true l.invariant.0 l.invariant.1),
    )

pub returns : goal.returns
returns g c =
    let l = c.loop-i in
    finish g.T.Placed.placed l.cells _ c.args.place l.i c.loop-i-test.false l.invariant.0 l.invariant.1
