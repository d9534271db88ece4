-- `versions::some` meets its contract. The loop's invariant: met is the answer for the cells so far.
use Rattle.std.proofs.Common.{Bool, ◌≡◌, take}
use Rattle.std.specs.List.{list_any}
use Rattle.versions.proofs.some.Given as goal

abbrev pub invariant-loop-x : goal.invariant-loop-x
invariant-loop-x g l =
    (p : g.row.T.Denot → Bool) → ((x : g.row.T.Denot) (b : Bool) → goal.F-post g l.test x b → b ≡ p x) → l.met ≡ list_any p (take l.x-index l.cells)
