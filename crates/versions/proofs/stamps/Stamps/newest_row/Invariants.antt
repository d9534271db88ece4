-- `Stamps::newest_row` meets its contract. The loop's invariant: best is where the newest version of the first i rows is.
-- The measure is how many rows are left.
use Rattle.std.proofs.Common.{◌≡◌, ◌-◌, ◌≤◌}
use Rattle.versions.specs.Versions.{Columns, keyed, versions_of, newest, row_of}
use Rattle.versions.proofs.stamps.Stamps.newest_row.Given as goal

abbrev pub invariant-loop-i : goal.invariant-loop-i
invariant-loop-i l =
    (l.i ≤ l.self.used) × ((others : Columns) → l.best ≡ row_of (newest l.k l.t (versions_of l.i (keyed l.self.keys.now l.self.times.now others))))

abbrev pub decreases-loop-i : goal.decreases-loop-i
decreases-loop-i l = l.self.used - l.i
