-- A turn joins what is followed from behind it to what is followed from before it. A line that is read leaves fewer, and judging leaves as many.
use Rattle.std.proofs.Common.{sym, ◌∙◌}
use Rattle.script.specs.Follow.{ends, passes, asks}
use Rattle.script.specs.RunLaws.{read_left, judged_left}
use Rattle.script.proofs.run.follow.Goals as goal

pub loop-run-init : goal.loop-run-init
loop-run-init g c = λ r s f. rw c.new-run.ensures at f

pub loop-run-preserved-then-run : goal.loop-run-preserved-then-run
loop-run-preserved-then-run g c =
    λ r s f.
    c.loop-run.invariant r s
    (asks (sym c.goes.ensures ∙ c.loop-run-test.true) (rw c.read-run.ensures at c.if-run.true) (rw c.read-run.ensures at c.turn-answer.ensures) c.sum.ensures
    (rw (c.judged-run.ensures, c.read-run.ensures) at f))

pub loop-run-preserved : goal.loop-run-preserved
loop-run-preserved g c =
    λ r s f.
    c.loop-run.invariant r s
    (passes (sym c.goes.ensures ∙ c.loop-run-test.true) (rw c.read-run.ensures at c.if-run.false) (rw c.read-run.ensures at f))

pub returns : goal.returns
returns g c = c.loop-run.invariant _ _ (ends (sym c.goes.ensures ∙ c.loop-run-test.false))

pub loop-run-smaller-then-run : goal.loop-run-smaller-then-run
loop-run-smaller-then-run g c =
    rw (judged_left _ _ _ c.judged-run.ensures) (read_left _ _ c.goes.ensures c.loop-run-test.true c.read-run.ensures)

pub loop-run-smaller : goal.loop-run-smaller
loop-run-smaller g c = read_left _ _ c.goes.ensures c.loop-run-test.true c.read-run.ensures
