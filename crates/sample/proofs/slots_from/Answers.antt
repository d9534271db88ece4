-- `sample::slots_from` meets its contract. Assumes nothing.
use mathlib.Core.Path.{◌≡◌}
use mathlib.Core.List.{List, ◌++◌}
use Prim.Native.Nat.{ℕ, suc, ◌+◌, ◌*◌, ◌-◌, ◌≤◌, ◌<◌}
use native.Mathlib.Omega.{arith}
use lib.ListN.{length, take, set, length-set}
use Rattle.slot.specs.declared.Slot.{Slot}
use Rattle.sample.specs.Sample.{slot_from, slots_from}
use Rattle.sample.proofs.Laid.{laid, all_laid}
use Rattle.sample.proofs.slots_from.Goals as goal

module _ (slots whole : List Slot) (n i : ℕ) where
  turn : (s : Slot) → i < 8 → length slots ≡ 8 → s ≡ slot_from (n + 99 * i) → take i slots ++ slots_from (n + 99 * i) (8 - i) ≡ whole
      → take (i + 1) (set slots i s) ++ slots_from (n + 99 * (i + 1)) (8 - (i + 1)) ≡ whole
  unfolding slots_from
  turn s l k e h =
      let w : 8 - i ≡ suc (8 - (i + 1)) = omega arith in
      let v : n + 99 * (i + 1) ≡ n + 99 * i + 99 = omega arith in
      rw (v, e) (laid slots i (slot_from (n + 99 * i)) (slots_from (n + 99 * i + 99) (8 - (i + 1))) whole (omega arith) (rw w at h))

  finish : 8 ≤ i → length slots ≡ 8 → take i slots ++ slots_from (n + 99 * i) (8 - i) ≡ whole → slots ≡ whole
  unfolding slots_from
  finish l k e =
      let w : 8 - i ≡ 0 = omega arith in
      all_laid slots i whole (omega arith) (rw w at e)

pub loop-i-preserved : goal.loop-i-preserved
loop-i-preserved c =
    let l = c.loop-i in (
      simp length-set l.invariant.0,
      turn l.slots _ c.args.place l.i _ c.loop-i-test.true l.invariant.0 c.slot_from.ensures l.invariant.1,
    )

pub returns : goal.returns
returns c =
    let l = c.loop-i in
    finish l.slots _ c.args.place l.i c.loop-i-test.false l.invariant.0 l.invariant.1
