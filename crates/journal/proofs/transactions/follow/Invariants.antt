-- `journal::transactions::follow` meets its contract. The loop's invariant: the trace is that of the transaction's records passed. Assumes nothing.
use mathlib.Core.Path.{◌≡◌}
use Rattle.rules.specs.Transactions.{of}
use Rattle.record.specs.Bytes.{records_in}
use Rattle.journal.specs.Walks.{trace_of}
use Rattle.journal.proofs.transactions.follow.Given as goal

abbrev pub invariant-loop-i : goal.invariant-loop-i
invariant-loop-i l = (l.trace ≡ trace_of (of l.n (records_in l.i l.records.bytes.now)))
