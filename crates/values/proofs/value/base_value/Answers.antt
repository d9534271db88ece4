-- `values::base_value` meets its contract: the row that `column::find` finds is the one that counts. Assumes nothing.
use mathlib.Core.Path.{◌≡◌, sym, ap, ◌∙◌}
use Rattle.std.proofs.Common.{rules}
use mathlib.Core.List.{List}
use Prim.Native.Nat.{ℕ, ◌<◌}
use native.Mathlib.Omega.{arith}
use lib.ListN.{length, take, get_or, length-take}
use lib.Seq.{get_or-take}
use Rattle.std.specs.Prelude.{Some, None, Option}
use Rattle.rules.specs.Values.{row_value}
use Rattle.rules.specs.Columns.{first_rows, Rows}
use Rattle.column.specs.Column.{first_row}
use Rattle.column.specs.Laws.{first_at}
use Rattle.values.specs.Pass.{found_value}
use Rattle.values.specs.PassLaws.{row_found}
use Rattle.values.proofs.value.base_value.Goals as goal

module _ (keys values : List ℕ) (rows k : ℕ) (there : Rows keys values rows) (f : Option ℕ) (found : f ≡ first_row k (take rows keys)) where
  same : row_value (first_rows rows keys values) k ≡ found_value (take rows values) f
  same =
      let i = there.in_keys in
      let j = there.in_values in
      row_found (take rows keys) (take rows values) k (simp length-take (omega arith)) ∙ ap (found_value (take rows values)) (sym found)

  module _ (i : ℕ) (e : f ≡ Some i) where
    in_rows : i < rows
    in_rows =
        omega (arith, rw length-take at (first_at k (take rows keys) (sym found ∙ e)).row)

    in_values : i < length values
    in_values = omega (arith, there.in_values, in_rows)

    at_row : Some (get_or values i 0) ≡ row_value (first_rows rows keys values) k
    at_row = rw (same, e, get_or-take rows values i 0 in_rows)

  no_row : f ≡ None → None ≡ row_value (first_rows rows keys values) k
  no_row e = rw (same, e)

pub returns-in_default : goal.returns-in_default
returns-in_default c =
    let b = c.args.base in
    no_row b.keys.now b.values.now b.count c.args.k b.there _ c.find.ensures c.in_default.is

pub offset_bounds-base-i : goal.offset_bounds-base-i
offset_bounds-base-i c =
    let b = c.args.base in
    let h : c.in-Some.i < length b.values.now = in_values b.keys.now b.values.now b.count c.args.k b.there _ c.find.ensures _ c.in-Some.is in
    search rules

pub bounds-base-i : goal.bounds-base-i
bounds-base-i c =
    let b = c.args.base in
    in_values b.keys.now b.values.now b.count c.args.k b.there _ c.find.ensures _ c.in-Some.is

pub returns : goal.returns
returns c =
    let b = c.args.base in
    at_row b.keys.now b.values.now b.count c.args.k b.there _ c.find.ensures _ c.in-Some.is
