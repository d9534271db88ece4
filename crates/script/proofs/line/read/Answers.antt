-- Nothing is read at first, a turn reads one byte more, and the line ends at its end or with the script.
use Rattle.std.proofs.Common.{◌≡◌, arith}
use Rattle.script.specs.Line.{line_at}
use Rattle.script.proofs.Turns.{byte_read, line_ends, script_ends}
use Rattle.script.proofs.line.read.Goals as goal

pub loop-i-init : goal.loop-i-init
unfolding line_at
loop-i-init c = (rw c.new-reading.ensures, omega arith)

pub loop-i-preserved : goal.loop-i-preserved
loop-i-preserved c =
    let l = c.loop-i in
    let s = c.args.script.now in (
      byte_read s c.args.from c.args.x l.reading l.i (line_at s c.args.from c.args.x) l.invariant.0 (omega arith)
          c.if-script-i-eq10.false c.taken-reading.result c.taken-reading.ensures,
      omega arith,
    )

pub returns-then-script-i-eq10 : goal.returns-then-script-i-eq10
returns-then-script-i-eq10 c =
    let l = c.loop-i in
    let s = c.args.script.now in
    rw (c.line.ensures, c.closed.ensures)
    (line_ends s c.args.from c.args.x l.reading l.i (line_at s c.args.from c.args.x) l.invariant.0 c.loop-i-test.true c.if-script-i-eq10.true)

pub returns : goal.returns
returns c =
    let l = c.loop-i in
    let s = c.args.script.now in
    let e : c.max.result ≡ l.i = omega (arith, c.max.ensures, l.invariant.1, c.loop-i-test.false, l.auto.i) in
    rw (c.line-2.ensures, c.closed-2.ensures, e)
    (script_ends s c.args.from c.args.x l.reading l.i (line_at s c.args.from c.args.x) l.invariant.0 c.loop-i-test.false)
