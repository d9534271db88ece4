-- The answer of a reply as a host gets it, three numbers. Assumes nothing.
use Rattle.std.specs.Prelude.{ℕ, Some, None}
use Rattle.rules.specs.Value.{Value}
use Rattle.answer.specs.declared.shown.Answer.{Answer}
use Rattle.answer.specs.Reply.{Reply}

-- a number with a value beside it: 1 and the value, or 0 and 0 for none
abbrev pub shown : ℕ → Value → Answer
shown n None = record { number = n; present = 0; value = 0 }
shown n (Some v) = record { number = n; present = 1; value = v }

-- the answer of a reply
abbrev pub answer_of : Reply → Answer
answer_of r = shown r.number r.value
