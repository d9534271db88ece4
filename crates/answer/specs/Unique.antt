-- No second answer satisfies the contract of a public function of this crate. Assumes nothing.
use Rattle.std.specs.Prelude.{◌≡◌, Bool, ℕ, eqb, Option, None, Result}
use Rattle.std.specs.Result.{result_unwrap_or}
use Rattle.std.proofs.Common.{sym, ap₂, ◌∙◌}
use Rattle.rules.specs.Value.{Value}
use Rattle.answer.specs.declared.Refusal.{Refusal}
use Rattle.answer.specs.declared.Outcome.{Outcome}
use Rattle.answer.specs.declared.shown.Answer.{Answer}
use Rattle.answer.specs.Reply.{Reply, number_of, place_of, begun_number, of_begun, of_done, of_listed, of_result}
use Rattle.answer.specs.Laws.{done_only}
use Rattle.answer.specs.Shown.{shown, answer_of}

pub number_unique : (x : Refusal) (a b : ℕ) → a ≡ number_of x → b ≡ number_of x → a ≡ b
number_unique x a b p q = p ∙ sym q

pub place_unique : (x : Refusal) (a b : Option ℕ) → a ≡ place_of x → b ≡ place_of x → a ≡ b
place_unique x a b p q = p ∙ sym q

-- whether a call was accepted, which `is_ok` of the library tells (`accepted_zero`), and the number that begin gave (`begun_or_zero`)
pub begun_accepted_unique : (x : Result ℕ Refusal) (a b : Bool) → a ≡ eqb (of_begun x).number 0 → b ≡ eqb (of_begun x).number 0 → a ≡ b
begun_accepted_unique x a b p q = p ∙ sym q

pub begun_number_unique : (x : Result ℕ Refusal) (a b : ℕ) → a ≡ begun_number x → b ≡ begun_number x → a ≡ b
begun_number_unique x a b p q = p ∙ sym q

pub done_accepted_unique : (x : Result Unit Refusal) (a b : Bool) → a ≡ eqb (of_done x).number 0 → b ≡ eqb (of_done x).number 0 → a ≡ b
done_accepted_unique x a b p q = p ∙ sym q

pub listed_accepted_unique : (x : Result ℕ Refusal) (a b : Bool) → a ≡ eqb (of_listed x).number 0 → b ≡ eqb (of_listed x).number 0 → a ≡ b
listed_accepted_unique x a b p q = p ∙ sym q

-- an answer as a host gets it: of a number and a value, and of a reply, which those of begin, read, lookup, list and the other calls are
pub shown_unique : (n : ℕ) (v : Value) (a b : Answer) → a ≡ shown n v → b ≡ shown n v → a ≡ b
shown_unique n v a b p q = p ∙ sym q

pub answer_unique : (r : Reply) (a b : Answer) → a ≡ answer_of r → b ≡ answer_of r → a ≡ b
answer_unique r a b p q = p ∙ sym q

pub given_unique : {A : Type 0} (given : A → Value) (x : A) (a b : Option ℕ) → a ≡ given x → b ≡ given x → a ≡ b
given_unique given x a b p q = p ∙ sym q

pub from_unique : {A : Type 0} (given : A → Value) (r : Result A Refusal) (a b : Answer) → a ≡ answer_of (of_result given r)
    → b ≡ answer_of (of_result given r) → a ≡ b
from_unique given r a b p q = p ∙ sym q

pub outcome_unique : {H : Type 0} (before : H) (after : Result H Refusal) (a b : Outcome H Unit)
    → (a.head ≡ result_unwrap_or after before) × (of_done a.answer ≡ of_result (λ _. None) after)
    → (b.head ≡ result_unwrap_or after before) × (of_done b.answer ≡ of_result (λ _. None) after) → a ≡ b
outcome_unique {H} before after a b p q =
    ap₂ (λ (h : H) (r : Result Unit Refusal). record { head = h; answer = r }) (p.0 ∙ sym q.0) (done_only a.answer b.answer (p.1 ∙ sym q.1))
