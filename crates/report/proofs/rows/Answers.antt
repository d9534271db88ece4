-- `report::rows` meets its contract. The loop's invariant: what is written and the lines of the rows that are left are the whole text. Assumes nothing.
use mathlib.Core.Path.{◌≡◌, refl, sym, ap, ◌∙◌}
use mathlib.Core.List.{List, ◌++◌}
use Prim.Native.Nat.{ℕ, suc, ◌≤◌, ◌<◌, ◌-◌, ◌+◌, ◌*◌, ◌^◌}
use native.Mathlib.Omega.{arith}
use native.Mathlib.Numerals.{add-one}
use native.Mathlib.Nat.{sub-zero, add-zero}
use lib.ListN.{length, take, drop, get_or, length-append, take-append-drop}
use lib.Seq.{drop-cons}
use Rattle.rules.specs.Columns.{first_rows}
use Rattle.report.specs.Text.{key_is, value_is, pair_line, row_lines, row_bytes}
use Rattle.report.specs.Written.{placed, Written}
use Rattle.report.specs.Laws.{row_bytes_lem, placed_more, length_written}
use Rattle.report.proofs.rows.Invariants.{rest, Going}
use Rattle.report.proofs.rows.Goals as goal

module _ (keys values : List ℕ) (count : ℕ) where
  rest_step : (i : ℕ) → i < count → count ≤ length keys → count ≤ length values
      → rest keys values count i ≡ pair_line key_is (get_or keys i 0) value_is (get_or values i 0) ++ rest keys values count (i + 1)
  rest_step i l h k =
      let w : count - i ≡ suc (count - (i + 1)) = omega arith in
      rw (w, drop-cons keys i 0 (omega arith), drop-cons values i 0 (omega arith), add-one)

  starts : (b : List ℕ) (at : ℕ) → at + count * row_bytes ≤ length b → Going keys values count b at b at 0
  starts b at h = record { same = refl; room = omega arith; ends = rw sub-zero; goes = rw sub-zero }

  module _ {b₀ b : List ℕ} {at n i : ℕ} (g : Going keys values count b₀ at b n i) (l : i < count) (h : count ≤ length keys) (k : count ≤ length values)
      (ks : get_or keys i 0 < 2 ^ 32) (vs : get_or values i 0 < 2 ^ 32) where
    fits : n + length (pair_line key_is (get_or keys i 0) value_is (get_or values i 0)) ≤ length b
    fits = omega (arith, g.room, row_bytes_lem (get_or keys i 0) (get_or values i 0) ks vs)

    turn : {b' : List ℕ} {n' : ℕ} → Written b n (pair_line key_is (get_or keys i 0) value_is (get_or values i 0)) n' b' → Going keys values count b₀ at b' n' (i + 1)
    turn {b'} {n'} p =
        let x = pair_line key_is (get_or keys i 0) value_is (get_or values i 0) in
        let e = rest_step i l h k in
        let f : length b' ≡ length b = length_written fits p in
        record {
          same = f ∙ g.same;
          room = omega (arith, g.room, p.next, row_bytes_lem (get_or keys i 0) (get_or values i 0) ks vs);
          ends = omega (arith, g.ends, p.next, ap length e, length-append x (rest keys values count (i + 1)));
          goes =
              ap (λ (z : List ℕ). placed z n' (rest keys values count (i + 1))) p.bytes
              ∙ ap (λ (m : ℕ). placed (placed b n x) m (rest keys values count (i + 1))) p.next
              ∙ placed_more b n x (rest keys values count (i + 1)) (omega (arith, fits))
              ∙ ap (λ (z : List ℕ). placed b n z) (sym e)
              ∙ g.goes;
        }

  finish : (b₀ b : List ℕ) (at n i : ℕ) → Going keys values count b₀ at b n i → count ≤ i → Written b₀ at (row_lines (first_rows count keys values)) n b
  finish b₀ b at n i g l =
      let z : count - i ≡ 0 = omega arith in
      record {
        next = sym (add-zero n) ∙ rw z at g.ends;
        bytes = sym (take-append-drop n b) ∙ ap (λ (m : ℕ). take n b ++ drop m b) (sym (add-zero n)) ∙ rw z at g.goes;
      }

pub loop-i-init : goal.loop-i-init
loop-i-init c = starts c.args.keys.now c.args.values.now c.args.count c.args.out.now c.args.at c.requires.2

pub pair-next-requires : goal.pair-next-requires
pair-next-requires c =
    fits c.args.keys.now c.args.values.now c.args.count c.loop-i.invariant (omega arith) c.requires.0 c.requires.1
    (omega (arith, c.type_inv.keys c.loop-i.i)) (omega (arith, c.type_inv.values c.loop-i.i))

pub loop-i-preserved : goal.loop-i-preserved
loop-i-preserved c =
    turn c.args.keys.now c.args.values.now c.args.count c.loop-i.invariant (omega arith) c.requires.0 c.requires.1
    (omega (arith, c.type_inv.keys c.loop-i.i)) (omega (arith, c.type_inv.values c.loop-i.i)) c.pair-next.ensures

pub returns : goal.returns
returns c =
    finish c.args.keys.now c.args.values.now c.args.count c.args.out.now c.loop-i.out c.args.at c.loop-i.next c.loop-i.i c.loop-i.invariant (omega arith)
