-- What is left of the line completes to the answer, and the next byte is at most the end.
use Rattle.std.proofs.Common.{◌≡◌, ◌-◌, ◌≤◌, max, length}
use Rattle.script.specs.Line.{line_at, read_on}
use Rattle.script.proofs.line.read.Given as goal

abbrev pub invariant-loop-i : goal.invariant-loop-i
invariant-loop-i l =
    (read_on l.script l.from l.x l.reading l.i (length l.script - l.i) ≡ line_at l.script l.from l.x) × (l.i ≤ max l.from (length l.script))
