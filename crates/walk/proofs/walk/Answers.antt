-- `walk::walk` meets its contract. The loop's invariant: the state is that of the records passed, and all of them are accepted.
-- Assumes nothing.
use mathlib.Core.Path.{◌≡◌, sym, ap, ◌∙◌}
use mathlib.Core.Bool.{Bool, true, false}
use mathlib.Core.List.{List}
use Prim.Native.Nat.{ℕ, ◌+◌, ◌*◌, ◌<◌}
use Rattle.rules.specs.declared.Record.{Record}
use Rattle.std.specs.Prelude.{Some, None}
use Rattle.rules.specs.Kinds.{record_size}
use Rattle.rules.specs.Recovery.{judge, walk}
use Rattle.record.specs.Bytes.{record_at, records_in}
use Rattle.record.specs.declared.Records.{Records}
use Rattle.record.specs.Records.{records_of}
use Rattle.record.specs.Laws.{length_records}
use Rattle.record.specs.Walks.{onward}
use Rattle.walk.specs.Walk.{Tracks}
use Rattle.walk.specs.Judged.{walk_more, walk_bad, walk_stays}
use native.Mathlib.Omega.{arith}
use Rattle.walk.proofs.walk.Goals as goal

module _ (low i : ℕ) (b : List ℕ) (r : Record) (v : Bool) (e : r ≡ record_at b (i * record_size)) (d : v ≡ judge low (records_in i b) r)
    (w : walk low (records_in i b) ≡ None) where
  stops : (used : ℕ) → i < used → v ≡ false → Some i ≡ walk low (records_in used b)
  stops used l f =
      let found : walk low (records_in (i + 1) b) ≡ Some i =
      onward (λ rs. walk low rs ≡ Some i) b i r e (walk_bad low r (records_in i b) (sym d ∙ f) w ∙ ap Some (length_records i b))
      in
      sym (walk_stays low (i + 1) used i b (omega arith) found)

  goes : v ≡ true → walk low (records_in (i + 1) b) ≡ None
  goes t = onward (λ rs. walk low rs ≡ None) b i r e (walk_more low r (records_in i b) (sym d ∙ t) w)

-- the first records, as those passed
first : (f : Records) (b : List ℕ) (i : ℕ) → (f.bytes.now ≡ b) × (f.used ≡ i) → records_of f ≡ records_in i b
first f b i e = ap (λ (n : ℕ). records_in n f.bytes.now) e.1 ∙ ap (records_in i) e.0

pub loop-i-preserved : goal.loop-i-preserved
loop-i-preserved c =
    let l = c.loop-i in
    let a = c.args in
    let b = a.records.bytes.now in
    let t = c.if-not-judge.false in
    let d = c.judge.ensures ∙ ap (λ rs. judge a.low rs c.at-r.result) (first c.first.result b l.i c.first.ensures) in (
      onward (λ rs. Tracks a.low rs c.step-s.result) b l.i c.at-r.result c.at-r.ensures
          (c.step-s.ensures a.low (records_in l.i b) l.invariant.0 (sym d ∙ t)),
      goes a.low l.i b c.at-r.result _ c.at-r.ensures d l.invariant.1 t,
    )

pub returns-then-not-judge : goal.returns-then-not-judge
returns-then-not-judge c =
    let l = c.loop-i in
    let a = c.args in
    let b = a.records.bytes.now in
    let d = c.judge.ensures ∙ ap (λ rs. judge a.low rs c.at-r.result) (first c.first.result b l.i c.first.ensures) in
    stops a.low l.i b c.at-r.result _ c.at-r.ensures d l.invariant.1 a.records.used (omega arith) c.if-not-judge.true
