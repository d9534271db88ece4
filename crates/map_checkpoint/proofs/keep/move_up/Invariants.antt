-- `map_checkpoint::keep::move_up` meets its contract. The loop's invariant: the picked versions of the first i rows stand in the first rows,
-- and the rows behind them are as they were.
use Prim.Native.Nat.{◌≤◌}
use Rattle.versions.specs.Versions.{columns, versions_of}
use Rattle.versions.specs.Columns.{Long, picked, Moved}
use Rattle.map_checkpoint.proofs.keep.move_up.Given as goal

abbrev pub invariant-loop-i : goal.invariant-loop-i
invariant-loop-i l =
    let cs = columns l.initial.keys l.initial.times l.initial.values l.initial.marks in
    let cs' = columns l.keys l.times l.values l.marks in
    (l.kept ≤ l.i) × Long cs cs' × Moved (picked l.picks (versions_of l.i cs)) cs cs' l.kept
