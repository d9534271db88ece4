-- The laws by which the pass goes on: what a kept update, a record passed over and a found row come to. Assumes nothing.
use Rattle.std.specs.Prelude.{◌≡◌, refl, true, false, ◌&&◌, List, [], ◌∷◌, ℕ, zero, suc, ◌+◌, ◌<◌, ◌≤◌, eqb, leb, length, set, drop}
use Rattle.std.proofs.Common.{◌∙◌, add-one, arith, get_or-set_same, get_or-set_other, drop-cons}
use Rattle.rules.specs.declared.Record.{Record}
use Rattle.rules.specs.Value.{Value}
use Rattle.rules.specs.Bools.{split, or_none_left, or_none_right}
use Rattle.rules.specs.Kinds.{is_commit}
use Rattle.rules.specs.Effects.{writes, effects}
use Rattle.rules.specs.Transactions.{of, wrote}
use Rattle.rules.specs.Values.{row_value, value}
use Rattle.rules.specs.Columns.{rows_of}
use Rattle.column.specs.Column.{first_from, first_row}
use Rattle.values.specs.Pass.{kept_step, kept_effects, found_value}

module _ (transactions kinds amounts : List ℕ) (at a b d n : ℕ) (old : Value) where
  -- an update kept behind the others changes nothing of what they do
  kept_front : (i : ℕ) → i ≤ at
      → kept_effects (set transactions at a) (set kinds at b) (set amounts at d) n i old ≡ kept_effects transactions kinds amounts n i old
  kept_front zero h = refl
  kept_front (suc i) h =
      rw (
        get_or-set_other transactions at i a 0 (omega arith),
        get_or-set_other kinds at i b 0 (omega arith),
        get_or-set_other amounts at i d 0 (omega arith),
        kept_front i (omega arith),
      )

  -- and comes last
  pub kept_more : at < length transactions → at < length kinds → at < length amounts
      → kept_effects (set transactions at a) (set kinds at b) (set amounts at d) n (at + 1) old
      ≡ kept_step a b d n (kept_effects transactions kinds amounts n at old)
  kept_more h k l =
      rw (
        add-one,
        get_or-set_same transactions at a 0 h,
        get_or-set_same kinds at b 0 k,
        get_or-set_same amounts at d 0 l,
        kept_front at (omega arith),
      )

module _ (k n : ℕ) (r : Record) (rs : List Record) (v : Value) where
  -- an update of the key does what it does once it is kept
  pub effects_more : writes k r ≡ true → effects k (of n (r ∷ rs)) v ≡ kept_step r.transaction r.kind r.value n (effects k (of n rs) v)
  effects_more w = split (eqb r.transaction n) (λ e. rw (e, w)) (λ e. rw e)

  -- any other record does nothing to the key
  pub effects_none : writes k r ≡ false → effects k (of n (r ∷ rs)) v ≡ effects k (of n rs) v
  effects_none w = split (eqb r.transaction n) (λ e. rw (e, w)) (λ e. rw e)

-- records that do not write a key do nothing to it
pub effects_unwritten : (k n : ℕ) (rs : List Record) (v : Value) → wrote k rs ≡ false → effects k (of n rs) v ≡ v
effects_unwritten k n [] v h = refl
effects_unwritten k n (r ∷ rs) v h =
    effects_none k n r rs v (or_none_left (writes k r) (wrote k rs) h) ∙ effects_unwritten k n rs v (or_none_right (writes k r) (wrote k rs) h)

-- so that its value is where it started
pub value_unwritten : (start : Value) (k t : ℕ) (rs : List Record) → wrote k rs ≡ false → value start k t rs ≡ start
value_unwritten start k t [] h = refl
value_unwritten start k t (r ∷ rs) h =
    let older = or_none_right (writes k r) (wrote k rs) h in
    split (is_commit r && leb r.time t)
    (λ e. rw (e, effects_unwritten k r.transaction rs (value start k t rs) older) (value_unwritten start k t rs older))
    (λ e. rw e (value_unwritten start k t rs older))

-- rows numbered from i have the value of the first row that has the key
found_from : (keys values : List ℕ) (k i : ℕ) → i + length keys ≤ length values
    → row_value (rows_of keys (drop i values)) k ≡ found_value values (first_from i k keys)
found_from [] values k i h = refl
found_from (x ∷ keys) values k i h =
    rw (drop-cons values i 0 (omega arith))
    (split (eqb x k) (λ e. rw e) (λ e. rw (e, ← add-one i) (found_from keys values k (i + 1) (omega arith))))

-- the value of a key in two columns of rows is that of the first row that has the key
pub row_found : (keys values : List ℕ) (k : ℕ) → length keys ≤ length values
    → row_value (rows_of keys values) k ≡ found_value values (first_row k keys)
row_found keys values k h = found_from keys values k 0 (omega arith)
