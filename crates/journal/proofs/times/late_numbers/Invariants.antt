-- `journal::times::late_numbers` meets its contract. The loop's invariant: the column holds the transactions of the late commits passed.
-- Assumes nothing.
use Rattle.record.specs.Bytes.{records_in}
use Rattle.journal.specs.Gathered.{lates, Gathered}
use Rattle.journal.proofs.times.late_numbers.Given as goal

abbrev pub invariant-loop-i : goal.invariant-loop-i
invariant-loop-i l =
    Gathered (lates l.s (records_in l.i l.records.bytes.now)) l.i l.count l.initial.numbers l.numbers
