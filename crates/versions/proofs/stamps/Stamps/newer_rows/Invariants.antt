-- `Stamps::newer_rows` meets its contract. The loop's invariant: newest is where the newest version of the first i rows is.
use Rattle.std.proofs.Common.{◌≡◌}
use Rattle.versions.specs.Versions.{Columns, keyed, versions_of, newest, row_of}
use Rattle.versions.proofs.stamps.Stamps.newer_rows.Given as goal

abbrev pub invariant-loop-i : goal.invariant-loop-i
invariant-loop-i l = (others : Columns) → l.newest ≡ row_of (newest l.k l.t (versions_of l.i (keyed l.self.keys.now l.self.times.now others)))
