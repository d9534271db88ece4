-- `Stamps::is_later` meets its contract. The loop's invariant: no version of the first i rows is one of k later than s that meets the transaction.
-- The measure is how many rows are left.
use Rattle.std.proofs.Common.{◌≡◌, false, List, ℕ, ◌-◌, ◌≤◌}
use Rattle.versions.specs.Versions.{columns, versions_of, later}
use Rattle.versions.proofs.stamps.Stamps.is_later.Given as goal

abbrev pub invariant-loop-i : goal.invariant-loop-i
invariant-loop-i l =
    (l.i ≤ l.self.used) × ((values : List ℕ) → later l.s l.k l.adds (versions_of l.i (columns l.self.keys.now l.self.times.now values l.marks)) ≡ false)

abbrev pub decreases-loop-i : goal.decreases-loop-i
decreases-loop-i l = l.self.used - l.i
