-- `journal::times::newest_time` meets its contract: no commit is later than last, nor is low. Assumes nothing.
use mathlib.Core.Path.{◌≡◌, sym, ap, ◌∙◌}
use mathlib.Core.Bool.{true}
use mathlib.Core.List.{List}
use Prim.Native.Nat.{ℕ, ◌*◌, ◌-◌, ◌<◌, ◌≤◌}
use native.Mathlib.Nat.{le-max_left, max-le}
use native.Mathlib.Omega.{arith}
use borrow.Author.Tests.{eq-eqb}
use Rattle.rules.specs.declared.Record.{Record}
use Rattle.rules.specs.Kinds.{record_size, is_commit}
use Rattle.rules.specs.Times.{last, last_step}
use Rattle.record.specs.Bytes.{record_at, records_in}
use Rattle.journal.specs.PastLaws.{past_last, past_at, low_last}
use Rattle.journal.proofs.times.newest_time.Goals as goal

-- the commit at a place
found : (j : List ℕ) (used low i : ℕ) (r : Record) (t : ℕ) → i < used → r ≡ record_at j (i * record_size) → r.kind ≡ 4 → t ≡ last_step r low
    → (low ≤ t) × (t ≤ last low (records_in used j))
found j used low i r t h e k f =
    let c : is_commit r ≡ true = eq-eqb r.kind 4 k in
    let p = past_at (last low (records_in used j)) i used j (past_last low (records_in used j)) h (sym (ap is_commit e) ∙ c) in
    let l : r.time ≤ last low (records_in used j) = omega (arith, p, ap (λ (x : Record). x.time) e) in
    rw (f, c) (le-max_left low r.time, max-le (low_last low (records_in used j)) l)

pub returns-then-r-eq-COMMIT : goal.returns-then-r-eq-COMMIT
returns-then-r-eq-COMMIT c =
    let l = c.loop-i in
    let a = c.args in
    found a.records.bytes.now a.records.used a.low (l.i - 1) _ _ (omega arith) c.at-r.ensures c.if-r-eq-COMMIT.true c.last_step.ensures

pub returns : goal.returns
returns c =
    let a = c.args in
    (omega arith, low_last a.low (records_in a.records.used a.records.bytes.now))
