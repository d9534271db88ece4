-- `values::value::settle` meets its contract. The loop's invariant says what the kept updates do and not what they hold: for every transaction they do
-- what the first i records do to the key; and v is the value of the first i records. Assumes nothing.
use mathlib.Core.Path.{◌≡◌, sym, ap, ◌∙◌}
use mathlib.Core.Bool.{true, false, ◌&&◌}
use mathlib.Core.List.{List}
use Prim.Native.Nat.{ℕ, ◌+◌, ◌*◌}
use native.Mathlib.Numerals.{add-one}
use native.Mathlib.Omega.{arith}
use lib.Dec.{leb}
use Rattle.rules.specs.declared.Record.{Record}
use Rattle.rules.specs.Value.{Value}
use Rattle.rules.specs.Kinds.{record_size, is_commit}
use Rattle.rules.specs.Effects.{effects, writes}
use Rattle.rules.specs.Transactions.{of}
use Rattle.rules.specs.Values.{settle, value}
use Rattle.record.specs.Bytes.{records_in, record_at}
use Rattle.values.specs.declared.kept.Kept.{Kept}
use Rattle.values.specs.Pass.{kept_step, Does, Grown}
use Rattle.values.specs.PassLaws.{effects_more, effects_none, effects_unwritten, value_unwritten}
use Rattle.values.proofs.value.settle.Goals as goal
use Rattle.values.proofs.value.settle.Goals.{then-settles, else-settles, then-writes, else-writes}

module _ (j : List ℕ) (start : Value) (k t i : ℕ) (r : Record) (e : r ≡ record_at j (i * record_size)) where
  module _ (v new : Value) (h : v ≡ value start k t (records_in i j)) where
    settled : new ≡ settle k t r (records_in i j) v → new ≡ value start k t (records_in (i + 1) j)
    settled s = rw add-one (s ∙ rw (e, h))

    stands : (is_commit r && leb r.time t) ≡ true → new ≡ effects k (of r.transaction (records_in i j)) v → new ≡ value start k t (records_in (i + 1) j)
    stands q f = settled (rw q f)

    waits : (is_commit r && leb r.time t) ≡ false → new ≡ v → new ≡ value start k t (records_in (i + 1) j)
    waits q f = settled (rw q f)

  module _ (transactions kinds amounts : List ℕ) (n : ℕ) (does : Does k (records_in i j) transactions kinds amounts n) where
    more : (transactions' kinds' amounts' : List ℕ) (n' : ℕ) → Grown r transactions kinds amounts n transactions' kinds' amounts' n' → writes k r ≡ true
        → Does k (records_in (i + 1) j) transactions' kinds' amounts' n'
    more transactions' kinds' amounts' n' g w m x =
        rw add-one (g.does m x ∙ ap (kept_step r.transaction r.kind r.value m) (does m x) ∙ sym (effects_more k m r (records_in i j) x w) ∙ rw e)

    passed : writes k r ≡ false → Does k (records_in (i + 1) j) transactions kinds amounts n
    passed w m x = rw add-one (does m x ∙ sym (effects_none k m r (records_in i j) x w) ∙ rw e)

pub loop-i-init : goal.loop-i-init
loop-i-init g c =
    let a = c.args in
    let none = c.first_update-i.ensures.before in
    let front = records_in c.first_update-i.result a.records.bytes.now in (
      omega (arith, c.requires.1),
      λ m x. rw c.requires.1 (sym (effects_unwritten a.k m front x none)),
      sym (value_unwritten a.start a.k a.t front none),
    )

pub loop-i-preserved : goal.loop-i-preserved
loop-i-preserved g c =
    let l = c.loop-i in
    let a = c.args in
    let e = c.at-r.ensures in
    let o = sym c.writes.ensures in
    let s = sym c.settles.ensures in
    let j = a.records.bytes.now in (
      elim c.if-writes.branch [
        | then-writes w ↦ omega (arith, ap (λ (q : Kept g.row.N). q.count) w.kept-is, w.push.ensures.count, l.invariant.0)
        | else-writes w ↦ omega (arith, ap (λ (q : Kept g.row.N). q.count) w.kept-is, l.invariant.0)
      ],
      elim c.if-writes.branch [
        | then-writes w ↦ rw w.kept-is
            (more j a.start a.k a.t l.i _ e _ _ _ _ l.invariant.1 _ _ _ _ w.push.ensures (o ∙ w.if-writes.true))
        | else-writes w ↦ rw w.kept-is (passed j a.start a.k a.t l.i _ e _ _ _ _ l.invariant.1 (o ∙ w.if-writes.false))
      ],
      elim c.if-settles.branch [
        | then-settles w ↦ stands j a.start a.k a.t l.i _ e l.v _ l.invariant.2 (s ∙ w.if-settles.true) (w.v-is ∙ w.effects-v.ensures ∙ l.invariant.1 _ _)
        | else-settles w ↦ waits j a.start a.k a.t l.i _ e l.v _ l.invariant.2 (s ∙ w.if-settles.false) w.v-is
      ],
    )
