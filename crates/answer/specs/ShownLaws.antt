-- An answer as a host gets it loses nothing of its reply. Assumes nothing.
use Rattle.std.specs.Prelude.{◌≡◌, refl, cond, ℕ, eqb, Some, None}
use Rattle.std.proofs.Common.{sym, ap, ◌∙◌}
use Rattle.rules.specs.Value.{Value}
use Rattle.answer.specs.declared.shown.Answer.{Answer}
use Rattle.answer.specs.Reply.{Reply}
use Rattle.answer.specs.Shown.{shown, answer_of}

-- the reply that an answer tells
abbrev reply_of : Answer → Reply
reply_of a = record { number = a.number; value = cond (eqb a.present 0) None (Some a.value) }

told_back : (n : ℕ) (v : Value) → reply_of (shown n v) ≡ record { number = n; value = v }
told_back n None = refl
told_back n (Some i) = refl

-- two replies never have one answer
pub reply_only : (r s : Reply) → answer_of r ≡ answer_of s → r ≡ s
reply_only r s e = sym (told_back r.number r.value) ∙ ap reply_of e ∙ told_back s.number s.value
