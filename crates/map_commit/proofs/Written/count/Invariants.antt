-- `map_commit::Written::count` meets its contract: the loop's invariant is the count of the rows that count among the first i. Assumes nothing.
use Rattle.std.proofs.Common.{◌≡◌, ◌≤◌, length}
use Rattle.map_store.specs.Meaning.{firsts}
use Rattle.map_commit.specs.Commit.{rows_to}
use Rattle.map_commit.proofs.Written.count.Given as goal

abbrev pub invariant-loop-i : goal.invariant-loop-i
invariant-loop-i l = (l.count ≤ l.i) × (l.count ≡ length (firsts (rows_to l.self.slot.now l.i)))
