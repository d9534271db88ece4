-- Section 6: the paper's number and value of every answer. Assumes nothing.
use Rattle.std.specs.Prelude.{cond, ℕ, eqb, Result, Some, None, Ok, Err}
use Rattle.rules.specs.Value.{Value}
use Rattle.rules.specs.Effects.{or_zero}
use Rattle.answer.specs.declared.Refusal.{Refusal}
use Rattle.answer.specs.declared.Refusal.TheVariants.{BadShape, UnknownTransaction, BadKey, TooOld, Future, TooMany, NoNumbers, KeysFull, Held, NotLater, Conflict, NoRoom, BadRecord}

-- what a call answers: its number, and the value that goes with it
pub record Reply : Type 0 where
  pub number : ℕ
  pub value : Value

-- the number of a refusal
abbrev pub number_of : Refusal → ℕ
number_of BadShape = 1
number_of UnknownTransaction = 2
number_of BadKey = 3
number_of TooOld = 4
number_of Future = 5
number_of TooMany = 6
number_of NoNumbers = 7
number_of KeysFull = 8
number_of Held = 9
number_of NotLater = 10
number_of Conflict = 11
number_of NoRoom = 12
number_of (BadRecord i) = 13

-- the place that 13 gives, nothing for the others
abbrev pub place_of : Refusal → Value
place_of BadShape = None
place_of UnknownTransaction = None
place_of BadKey = None
place_of TooOld = None
place_of Future = None
place_of TooMany = None
place_of NoNumbers = None
place_of KeysFull = None
place_of Held = None
place_of NotLater = None
place_of Conflict = None
place_of NoRoom = None
place_of (BadRecord i) = Some i

-- the place as a number, 0 for none
abbrev pub place_number : Refusal → ℕ
place_number x = or_zero (place_of x)

-- a refused call answers its number, 13 also its place
abbrev pub refused : Refusal → Reply
refused x = record { number = number_of x; value = place_of x }

-- an accepted call answers 0 and its value
abbrev pub accepted : Value → Reply
accepted v = record { number = 0; value = v }

-- an accepted call answers 0 and what it gives, a refused one why
abbrev pub of_result : {A : Type 0} → (A → Value) → Result A Refusal → Reply
of_result given (Ok x) = accepted (given x)
of_result given (Err x) = refused x

-- begin gives the transaction number
abbrev pub of_begun : Result ℕ Refusal → Reply
of_begun = of_result (λ n. Some n)

-- the transaction number, 0 where the call was refused
abbrev pub begun_number : Result ℕ Refusal → ℕ
begun_number (Ok n) = n
begun_number (Err x) = 0

-- read and lookup give the value or absent
abbrev pub of_got : Result Value Refusal → Reply
of_got = of_result (λ v. v)

-- update, abort, commit, checkpoint and recover give nothing but the number
abbrev pub of_done : Result Unit Refusal → Reply
of_done = of_result (λ _. None)

-- list gives the count of rows
abbrev pub of_listed : Result ℕ Refusal → Reply
of_listed = of_result (λ n. Some n)

-- the reply of a call that gets a number: its value where it is accepted, else the number alone
abbrev pub told : ℕ → Value → Reply
told n v = record { number = n; value = cond (eqb n 0) v None }

-- what is there after a call that gets a number: something new where it is accepted, else what was there
abbrev pub after {ℓ} : {A : Type ℓ} → ℕ → A → A → A
after n new old = cond (eqb n 0) new old
