-- `journal::times::is_future` meets its contract. The loop's invariant: the time lies above last exactly if it lies above last of the records that are
-- left. Assumes nothing.
use mathlib.Core.Path.{◌≡◌}
use lib.Dec.{ltb}
use Rattle.rules.specs.Times.{last}
use Rattle.record.specs.Bytes.{records_in}
use Rattle.journal.proofs.times.is_future.Given as goal

abbrev pub invariant-loop-i : goal.invariant-loop-i
invariant-loop-i l =
    ltb (last l.low (records_in l.records.used l.records.bytes.now)) l.t ≡ ltb (last l.low (records_in l.i l.records.bytes.now)) l.t
