-- `map_commit::Written::stamp` meets its contract: the loop's invariant is that the rows that count among the first i are written. Assumes nothing.
use Rattle.std.proofs.Common.{◌+◌, ◌≤◌}
use Rattle.versions.specs.Versions.{columns}
use Rattle.map_store.specs.Meaning.{firsts}
use Rattle.map_commit.specs.Commit.{rows_to, newest_in, Stamped}
use Rattle.map_commit.proofs.Written.stamp.Given as goal

abbrev pub invariant-loop-i : goal.invariant-loop-i
invariant-loop-i l =
    let cs = columns l.initial.keys l.initial.times l.initial.values l.initial.marks in
    (l.at ≤ l.used + l.i) × Stamped (newest_in l.last l.used cs) l.t l.used (firsts (rows_to l.self.slot.now l.i)) cs (columns l.keys l.times l.values l.marks) l.at
