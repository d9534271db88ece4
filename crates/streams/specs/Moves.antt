-- What a call of read or write did, from what C answers. Assumes nothing.
use Rattle.std.specs.Prelude.{◌≡◌, Bool, false, cond, ℕ, zero, suc, ◌+◌, ◌≤◌, eqb, ℤ, pos, negsuc, Result, Ok, Err}
use Rattle.std.proofs.Common.{ControlFlow, Continue, Break}
use Rattle.streams.specs.declared.input.ReadFailed.{ReadFailed}
use Rattle.streams.specs.declared.moves.Fault.{Fault}
use Rattle.streams.specs.declared.moves.Fault.TheVariants.{Interrupted, Failed}

-- what a call did: how many bytes it moved, none at the end, or why it moved none
abbrev pub Moved : Type 0
Moved = Result ℕ Fault

-- what the input gave: so many bytes until it ended or the buffer was full, or a read that failed
abbrev pub Input : Type 0
Input = Result ℕ ReadFailed

-- what follows a call: to go on, with so many bytes done and so many interruptions left, or to stop
abbrev pub Step : Type 0
Step = ControlFlow Input (ℕ × ℕ)

-- what a call that is handed so many bytes may answer: -1, or how many it moved, at most as many
abbrev pub Answers : ℕ → ℤ → Type 0
Answers most (pos n) = n ≤ most
Answers most (negsuc n) = n ≡ 0

-- whether errno is EINTR, 4: a signal came before a byte was moved
abbrev pub is_interrupted : ℤ → Bool
is_interrupted (pos e) = eqb e 4
is_interrupted (negsuc e) = false

-- a count of bytes, nothing at all, or a call that failed: only an interrupted one is tried again
abbrev pub moved_by : ℤ → ℤ → Moved
moved_by (pos n) error = Ok n
moved_by (negsuc n) error = cond (is_interrupted error) (Err Interrupted) (Err Failed)

-- after some bytes the next call is for the rest, and an interrupted call is tried again while interruptions are left; the input ends where nothing
-- came, and a call that failed is the end of everything
abbrev pub step_of : Moved → ℕ → ℕ → Step
step_of (Ok (suc n)) done left = Continue (done + suc n, left)
step_of (Ok zero) done left = Break (Ok done)
step_of (Err Interrupted) done zero = Break (Err (record {}))
step_of (Err Interrupted) done (suc left) = Continue (done, left)
step_of (Err Failed) done left = Break (Err (record {}))

-- the bytes moved are not more than there was room for
abbrev pub Within : Moved → ℕ → Type 0
Within m most = (n : ℕ) → m ≡ Ok n → n ≤ most

-- the count of an input that ended lies within the buffer
abbrev pub Fits : Input → ℕ → Type 0
Fits i most = (n : ℕ) → i ≡ Ok n → n ≤ most

-- how many bytes were moved
abbrev pub count_of : Moved → ℕ
count_of (Ok n) = n
count_of (Err e) = 0
