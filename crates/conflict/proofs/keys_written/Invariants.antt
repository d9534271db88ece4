-- `conflict::keys_written` meets its contract. The loop's invariant: the column holds the distinct keys of the records passed.
-- Assumes nothing.
use Rattle.rules.specs.Transactions.{of, keys_written}
use Rattle.record.specs.Bytes.{records_in}
use Rattle.journal.specs.Gathered.{Gathered}
use Rattle.conflict.specs.Keys.{counting}
use Rattle.conflict.proofs.keys_written.Given as goal

abbrev pub invariant-loop-i : goal.invariant-loop-i
invariant-loop-i l =
    Gathered (keys_written (counting l.adds (of l.n (records_in l.i l.records.bytes.now)))) l.i l.count l.initial.keys l.keys
