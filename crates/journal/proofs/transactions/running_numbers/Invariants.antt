-- `journal::transactions::running_numbers` meets its contract. The loop's invariant: the column holds the running transactions that the records
-- passed begin, and top is one more than the highest number in them. Assumes nothing.
use mathlib.Core.Path.{◌≡◌}
use Rattle.rules.specs.Transactions.{running_in}
use Rattle.record.specs.Bytes.{records_in}
use Rattle.journal.specs.Ends.{top}
use Rattle.journal.specs.Gathered.{Gathered}
use Rattle.journal.proofs.transactions.running_numbers.Given as goal

abbrev pub invariant-loop-i : goal.invariant-loop-i
invariant-loop-i l =
    (l.top ≡ top (records_in l.i l.records.bytes.now)) × Gathered (running_in (records_in l.records.used l.records.bytes.now) (records_in l.i l.records.bytes.now)) l.i l.count l.initial.numbers l.numbers
