-- `walk::State::snapshot` meets its contract: the row that has the number has its snapshot. Assumes nothing.
use mathlib.Core.Path.{◌≡◌, sym, ap, ◌∙◌}
use Prim.Native.Nat.{ℕ, ◌<◌}
use lib.ListN.{take, get_or, length-take}
use lib.Seq.{get_or-take}
use Rattle.rules.specs.Bools.{not_both}
use Rattle.rules.specs.Lists.{among}
use Rattle.std.specs.Prelude.{Option, Some, None}
use Rattle.column.specs.Column.{first_row}
use Rattle.column.specs.Laws.{First, first_at}
use Rattle.walk.specs.declared.State.{State}
use Rattle.std.specs.Option.{is_some}
use Rattle.column.specs.AmongLaws.{found_among}
use Rattle.walk.specs.Walk.{SnapshotOf}
use native.Mathlib.Omega.{arith}
use Rattle.walk.proofs.State.snapshot.Goals as goal

module _ (s : State) (n : ℕ) (f : Option ℕ) (e : f ≡ first_row n (take s.count s.numbers)) where
  module _ (j : ℕ) (d : f ≡ Some j) where
    first : First n (take s.count s.numbers) j
    first = first_at n (take s.count s.numbers) (sym e ∙ d)

    used : j < s.count
    used = omega (arith, first.row, length-take s.count s.numbers)

    there : SnapshotOf s n (get_or s.snapshots j 0)
    there snap h a = h j used ∙ ap snap (sym (get_or-take s.count s.numbers j 0 used) ∙ first.key)

  nowhere : f ≡ None → SnapshotOf s n 0
  nowhere d snap h a =
      not_both (among n (take s.count s.numbers)) a (sym (found_among 0 n (take s.count s.numbers)) ∙ ap is_some (sym e ∙ d))

pub offset_bounds-self-j : goal.offset_bounds-self-j
offset_bounds-self-j c =
    let a = c.args in
    omega (arith, used a.self a.n _ c.find.ensures _ c.in-Some.is)

pub bounds-self-j : goal.bounds-self-j
bounds-self-j c =
    let a = c.args in
    omega (arith, used a.self a.n _ c.find.ensures _ c.in-Some.is)

pub returns-in-Some : goal.returns-in-Some
returns-in-Some c =
    let a = c.args in
    there a.self a.n _ c.find.ensures _ c.in-Some.is

pub returns-in-None : goal.returns-in-None
returns-in-None c =
    let a = c.args in
    nowhere a.self a.n _ c.find.ensures c.in-None.is
