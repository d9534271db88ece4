-- `compact::keep` meets its contract. The loop's invariant: of the records passed, those that stay stand at the front, and the records
-- that are not passed stand where they stood. Assumes nothing.
use mathlib.Core.Path.{◌≡◌}
use lib.ListN.{length}
use Rattle.record.specs.Bytes.{records_in}
use Rattle.compact.specs.Compact.{kept_in, sifted, Moved}
use Rattle.compact.proofs.keep.Given as goal

abbrev pub invariant-loop-i : goal.invariant-loop-i
invariant-loop-i l =
    (length l.journal ≡ length l.initial.journal)
    × Moved (sifted (kept_in l.running l.lates.numbers.now) l.t (records_in l.i l.initial.journal)) l.initial.journal l.i l.count l.journal
