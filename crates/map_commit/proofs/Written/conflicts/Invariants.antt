-- `map_commit::Written::conflicts` meets its contract: the loop's invariant is that none of the first i rows clashes. Assumes nothing.
use Rattle.std.proofs.Common.{◌≡◌, false, List, ℕ}
use Rattle.versions.specs.Stamps.{versions_in}
use Rattle.map_store.specs.Meaning.{firsts, clash}
use Rattle.map_commit.specs.Commit.{rows_to}
use Rattle.map_commit.proofs.Written.conflicts.Given as goal

abbrev pub invariant-loop-i : goal.invariant-loop-i
invariant-loop-i l = (values : List ℕ) → clash l.self.slot.now.snapshot (firsts (rows_to l.self.slot.now l.i)) (versions_in l.stamps values l.marks) ≡ false
