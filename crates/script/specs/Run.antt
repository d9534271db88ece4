-- A run of the script on a store. Assumes nothing.
use Rattle.std.specs.Prelude.{ℕ, ◌+◌, ◌-◌, ◌%◌, ◌^◌, Bool, false, ◌&&◌, List, length, nat_lt}
use Rattle.answer.specs.declared.shown.Answer.{Answer}
use Rattle.script.specs.declared.line.Word.{Word}
use Rattle.script.specs.declared.run.Run.{Run}
use Rattle.script.specs.Line.{blank, line_of, line_at}
use Rattle.script.specs.Play.{started, after}
use Rattle.script.specs.Tally.{none, judged}

-- more turns than a script makes
abbrev pub most_turns : ℕ
most_turns = 1000000

-- nothing is read yet
abbrev pub fresh : Word → Run
fresh store = record { play = started store; line = line_of (blank false) 0 0; tally = none; turns = 0 }

-- a line is left
abbrev pub goes : List ℕ → Run → Bool
goes script r = nat_lt r.turns most_turns && nat_lt r.play.at (length script)

-- how many lines it may still read
unfoldable pub left : Run → ℕ
left r = most_turns - r.turns

-- the next line is read, and says which follows
unfoldable pub read : List ℕ → Run → Run
read script r =
    let l = line_at script r.play.at r.play.x in
    record { play = after r.play l.call l.end; line = l; tally = r.tally; turns = (r.turns + 1) % 2 ^ 32 }

-- what came of the line is counted
unfoldable pub judged_by : Run → Answer → ℕ → Run
judged_by r a sum = record { play = r.play; line = r.line; tally = judged r.tally r.line a sum; turns = r.turns }
