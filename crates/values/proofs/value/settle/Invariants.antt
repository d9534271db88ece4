-- `values::value::settle` meets its contract. The loop's invariant says what the kept updates do and not what they hold: for every transaction they do
-- what the first i records do to the key; and v is the value of the first i records. Assumes nothing.
use mathlib.Core.Path.{◌≡◌}
use Prim.Native.Nat.{◌≤◌}
use Rattle.rules.specs.Values.{value}
use Rattle.record.specs.Bytes.{records_in}
use Rattle.values.specs.Pass.{Does}
use Rattle.values.proofs.value.settle.Given as goal

abbrev pub invariant-loop-i : goal.invariant-loop-i
invariant-loop-i g l =
    (l.kept.count ≤ l.i)
    × Does l.k (records_in l.i l.records.bytes.now) l.kept.transactions l.kept.kinds l.kept.amounts l.kept.count
    × (l.v ≡ value l.initial.v l.k l.t (records_in l.i l.records.bytes.now))
