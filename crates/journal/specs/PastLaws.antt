-- No commit is later than last. Assumes nothing.
use Rattle.std.specs.Prelude.{◌≡◌, true, false, List, [], ◌∷◌, ℕ, zero, suc, ◌*◌, ◌<◌, ◌≤◌, eqb}
use Rattle.std.proofs.Common.{sym, ◌∙◌, arith, eqb-true, ltb-false}
use Rattle.std.proofs.lemmas.Bool.{false≢true, eqb-false}
use Rattle.std.proofs.Math.Nat.{le-max_left, le-max_right, max-le}
use Rattle.rules.specs.declared.Record.{Record}
use Rattle.rules.specs.Bools.{split, or_none_left, or_none_right}
use Rattle.rules.specs.Kinds.{is_commit, record_size}
use Rattle.rules.specs.Transactions.{any}
use Rattle.rules.specs.Times.{last}
use Rattle.rules.specs.Checkpoints.{late}
use Rattle.record.specs.Bytes.{record_at, records_in}
use Rattle.journal.specs.Past.{Past, more, none}

-- what lies at or before a time lies at or before any later one
pub later : {l m : ℕ} {rs : List Record} → l ≤ m → Past l rs → Past m rs
later h none = none
later h (more r rs c p) = more r rs (λ e. let k = c e in omega arith) (later h p)

pub past_last : (low : ℕ) (rs : List Record) → Past (last low rs) rs
past_last low [] = none
past_last low (r ∷ rs) =
    split (is_commit r)
    (λ e.
    rw e
    (more r rs (λ q. le-max_right (last low rs) r.time) (later (le-max_left (last low rs) r.time) (past_last low rs))))
    (λ e. rw e (more r rs (λ q. absurd (false≢true (sym e ∙ q))) (past_last low rs)))

-- low is at or before last
pub low_last : (low : ℕ) (rs : List Record) → low ≤ last low rs
low_last low [] = omega arith
low_last low (r ∷ rs) =
    split (is_commit r)
    (λ e. rw e (omega (arith, low_last low rs, le-max_left (last low rs) r.time)))
    (λ e. rw e (low_last low rs))

-- and so is each commit
pub past_at : (l i used : ℕ) (j : List ℕ) → Past l (records_in used j) → i < used → is_commit (record_at j (i * record_size)) ≡ true
    → (record_at j (i * record_size)).time ≤ l
past_at l i zero j p h e = absurd (omega arith)
past_at l i (suc used) j (more r rs c p) h e =
    split (eqb i used)
    (λ q. let z : i ≡ used = eqb-true i used q in rw z (c (rw z at e)))
    (λ q. let z = eqb-false i used q in past_at l i used j p (omega arith) e)

-- where no commit is later than a time from low on, last is no later
pub last_past : (low t : ℕ) (rs : List Record) → low ≤ t → any (late t) rs ≡ false → last low rs ≤ t
last_past low t [] h e = h
last_past low t (r ∷ rs) h e =
    let a = or_none_left (late t r) (any (late t) rs) e in
    let k = last_past low t rs h (or_none_right (late t r) (any (late t) rs) e) in
    split (is_commit r)
    (λ c.
    let z : r.time ≤ t = ltb-false t r.time (rw c at a) in
    rw c (max-le k z))
    (λ c. rw c k)
