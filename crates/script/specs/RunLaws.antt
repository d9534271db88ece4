-- A run ends: each line that it reads leaves fewer, and judging leaves as many. Assumes nothing.
use Rattle.std.specs.Prelude.{◌≡◌, ℕ, ◌<◌, Bool, true, List, length, nat_lt}
use Rattle.std.proofs.Common.{sym, ◌∙◌, arith, ltb-true}
use Rattle.rules.specs.Bools.{and_left}
use Rattle.answer.specs.declared.shown.Answer.{Answer}
use Rattle.script.specs.declared.run.Run.{Run}
use Rattle.script.specs.Run.{most_turns, goes, left, read, judged_by}

pub read_left : (script : List ℕ) (r : Run) {b : Bool} {r' : Run} → b ≡ goes script r → b ≡ true → r' ≡ read script r → left r' < left r
unfolding read left
read_left script r g t e =
    let l : r.turns < most_turns = ltb-true r.turns most_turns (and_left (nat_lt r.turns most_turns) (nat_lt r.play.at (length script)) (sym g ∙ t)) in
    rw e (omega arith)

pub judged_left : (r : Run) (a : Answer) (sum : ℕ) {r' : Run} → r' ≡ judged_by r a sum → left r' ≡ left r
unfolding judged_by left
judged_left r a sum e = rw e
