-- How it is said of an answer as a host gets it, and of a head, that a contract of a store holds. Assumes nothing.
use Rattle.std.specs.Prelude.{◌≡◌}
use Rattle.answer.specs.declared.shown.Answer.{Answer}
use Rattle.answer.specs.Reply.{Reply}
use Rattle.answer.specs.Shown.{answer_of}

-- an answer is that of a reply of which a contract of the store holds
pub record Answers (holds : Reply → Type 0) (a : Answer) : Type 0 where
  pub reply : Reply
  pub shows : a ≡ answer_of reply
  pub meets : holds reply

-- a head and an answer are those of a reply of which a contract of the store holds
pub record Returns {H : Type 0} (holds : Reply → H → Type 0) (head : H) (a : Answer) : Type 0 where
  pub reply : Reply
  pub shows : a ≡ answer_of reply
  pub meets : holds reply head
