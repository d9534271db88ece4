-- The laws of answers: no refusal has number 0, what is there after a refused and after an accepted call, and an answer is determined by its
-- number and value. Assumes nothing.
use Rattle.std.specs.Prelude.{◌≡◌, refl, false, cond, [], ◌∷◌, ℕ, ◌-◌, eqb, get_or, Result, Some, None, Ok, Err, is_ok}
use Rattle.std.specs.Result.{result_unwrap_or}
use Rattle.std.proofs.Common.{sym, ap, ◌∙◌}
use Rattle.rules.specs.Value.{Value}
use Rattle.rules.specs.Effects.{or_zero}
use Rattle.answer.specs.declared.Refusal.{Refusal}
use Rattle.answer.specs.declared.Refusal.TheVariants.{BadShape, UnknownTransaction, BadKey, TooOld, Future, TooMany, NoNumbers, KeysFull, Held, NotLater, Conflict, NoRoom, BadRecord}
use Rattle.answer.specs.Reply.{Reply, number_of, refused, of_result, of_begun, begun_number, of_got, of_done, of_listed, after}

-- the refusal that a number and a place name
abbrev named : Reply → Refusal
named r =
    get_or (
    BadShape ∷ UnknownTransaction ∷ BadKey ∷ TooOld ∷ Future ∷ TooMany ∷ NoNumbers ∷ KeysFull ∷ Held ∷ NotLater ∷ Conflict ∷ NoRoom ∷ []
    ) (r.number - 1) (BadRecord (or_zero r.value))

-- what is known of every refusal: its number is not 0, and it is the one that its reply names
record Known (x : Refusal) : Type 0 where
  some : eqb (number_of x) 0 ≡ false
  back : named (refused x) ≡ x

known : (x : Refusal) → Known x
known BadShape = record { some = refl; back = refl }
known UnknownTransaction = record { some = refl; back = refl }
known BadKey = record { some = refl; back = refl }
known TooOld = record { some = refl; back = refl }
known Future = record { some = refl; back = refl }
known TooMany = record { some = refl; back = refl }
known NoNumbers = record { some = refl; back = refl }
known KeysFull = record { some = refl; back = refl }
known Held = record { some = refl; back = refl }
known NotLater = record { some = refl; back = refl }
known Conflict = record { some = refl; back = refl }
known NoRoom = record { some = refl; back = refl }
known (BadRecord i) = record { some = refl; back = refl }

-- no refusal has number 0
pub refused_some : (x : Refusal) → eqb (number_of x) 0 ≡ false
refused_some x = (known x).some

-- a call is accepted exactly if its number is 0
pub accepted_zero : {A : Type 0} (given : A → Value) (a : Result A Refusal) → is_ok a ≡ eqb (of_result given a).number 0
accepted_zero given (Ok x) = refl
accepted_zero given (Err x) = sym (refused_some x)

-- the transaction number, or 0, is what `unwrap_or(0)` of the library gives
pub begun_or_zero : (a : Result ℕ Refusal) → result_unwrap_or a 0 ≡ begun_number a
begun_or_zero (Ok n) = refl
begun_or_zero (Err x) = refl

-- a refused call leaves what was there
pub after_refused {ℓ} : {A : Type ℓ} (x : Refusal) (n : ℕ) (new old : A) → n ≡ number_of x → old ≡ after n new old
after_refused x n new old e = rw (e, refused_some x)

-- an answer that can be told from its reply is the only one with that reply
pub told_apart : {A : Type 0} (of : A → Reply) (from : Reply → A) → ((a : A) → from (of a) ≡ a) → (a b : A) → of a ≡ of b → a ≡ b
told_apart of from back a b e = sym (back a) ∙ ap from e ∙ back b

pub refusal_only : (x y : Refusal) → refused x ≡ refused y → x ≡ y
refusal_only = told_apart refused named (λ x. (known x).back)

-- an answer from its reply: accepted with what it gives, or refused
abbrev from : {A : Type 0} → (Value → A) → Reply → Result A Refusal
from taken r = cond (eqb r.number 0) (Ok (taken r.value)) (Err (named r))

module _ {A : Type 0} (given : A → Value) (taken : Value → A) (round : (x : A) → taken (given x) ≡ x) where
  from_back : (a : Result A Refusal) → from taken (of_result given a) ≡ a
  from_back (Ok x) = ap (λ (y : A). Ok y) (round x)
  from_back (Err x) = rw (refused_some x, (known x).back)

  -- where what is given tells what it was given from, the reply tells the answer
  pub result_only : (a b : Result A Refusal) → of_result given a ≡ of_result given b → a ≡ b
  result_only = told_apart (of_result given) (from taken) from_back

pub begun_only : (a b : Result ℕ Refusal) → of_begun a ≡ of_begun b → a ≡ b
begun_only = result_only (λ n. Some n) or_zero (λ n. refl)

pub got_only : (a b : Result Value Refusal) → of_got a ≡ of_got b → a ≡ b
got_only = result_only (λ v. v) (λ v. v) (λ v. refl)

pub done_only : (a b : Result Unit Refusal) → of_done a ≡ of_done b → a ≡ b
done_only = result_only (λ _. None) (λ _. tt) (λ _. refl)

pub listed_only : (a b : Result ℕ Refusal) → of_listed a ≡ of_listed b → a ≡ b
listed_only = result_only (λ n. Some n) or_zero (λ n. refl)
