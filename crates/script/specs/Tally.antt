-- What came of the lines of a script. Assumes nothing.
use Rattle.std.specs.Prelude.{ℕ, ◌+◌, ◌%◌, ◌^◌, Bool, cond, ◌&&◌, ◌||◌, ◌==◌}
use Rattle.answer.specs.declared.shown.Answer.{Answer}
use Rattle.script.specs.declared.line.Line.{Line}
use Rattle.script.specs.declared.tally.Tally.{Tally}

-- the answer is the one that a line wants
abbrev pub is_wanted : Answer → Line → Bool
is_wanted a l = (a.number == l.number && a.present == l.present) && a.value == l.value

-- no line yet
abbrev pub none : Tally
none = record { right = 0; wrong = 0; sum = 0 }

-- one line more, as it must be or not
abbrev pub counted : Tally → Bool → ℕ → Tally
counted t is_right s =
    cond is_right
    (record { right = (t.right + 1) % 2 ^ 64; wrong = t.wrong; sum = s })
    (record { right = t.right; wrong = (t.wrong + 1) % 2 ^ 64; sum = s })

-- a line is as it must be if its answer is the wanted one, and a refused call left the cells as they were
abbrev pub judged : Tally → Line → Answer → ℕ → Tally
judged t l a s = counted t (is_wanted a l && (a.number == 0 || s == t.sum)) s
