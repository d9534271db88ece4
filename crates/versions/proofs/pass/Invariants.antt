-- `versions::pass` meets its contract. The loop's invariant: none of the cells from `from` up to i passes the test. The measure is how many are left.
use Rattle.std.proofs.Common.{Bool, false, ◌≡◌, ◌-◌, ◌≤◌, take, drop}
use Rattle.std.specs.List.{list_any}
use Rattle.versions.proofs.pass.Given as goal

abbrev pub invariant-loop-i : goal.invariant-loop-i
invariant-loop-i g l =
    (l.from ≤ l.i)
    × (l.i ≤ l.used)
    × ((p : g.row.T.Denot → Bool) → ((x : g.row.T.Denot) (b : Bool) → goal.F-post g l.test x b → b ≡ p x) → list_any p (take (l.i - l.from) (drop l.from l.cells)) ≡ false)

abbrev pub decreases-loop-i : goal.decreases-loop-i
decreases-loop-i g l = l.used - l.i
