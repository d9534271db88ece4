-- `Stamps::is_later_among` meets its contract. The loop's invariant: no version of the first i rows is one of k later than s that meets the transaction.
use Rattle.std.proofs.Common.{◌≡◌, false, List, ℕ}
use Rattle.versions.specs.Versions.{columns, versions_of, later}
use Rattle.versions.proofs.stamps.Stamps.is_later_among.Given as goal

abbrev pub invariant-loop-i : goal.invariant-loop-i
invariant-loop-i l = (values : List ℕ) → later l.s l.k l.adds (versions_of l.i (columns l.self.keys.now l.self.times.now values l.marks)) ≡ false
