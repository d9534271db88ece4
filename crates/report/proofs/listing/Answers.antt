-- `report::listing` meets its contract: the list is accepted, and two lines and its rows are written, one behind the other. Assumes nothing.
use mathlib.Core.Path.{◌≡◌, refl, ap, ◌∙◌}
use mathlib.Core.List.{List, ◌++◌}
use Prim.Native.Nat.{ℕ, ◌+◌, ◌*◌, ◌^◌, ◌≤◌, ◌<◌}
use native.Mathlib.Omega.{arith}
use lib.ListN.{length}
use Rattle.rules.specs.Times.{last}
use Rattle.record.specs.Bytes.{records_in}
use Rattle.decimal.specs.Laws.{digits_64, digits_fit}
use Rattle.report.specs.Text.{time_is, keys_is, line, row_bytes, most_listed, text_bytes}
use Rattle.report.specs.Written.{Written}
use Rattle.report.specs.Laws.{length_line, length_written, then, called}
use Rattle.report.specs.Calls.{never_refused, list_few, list_text_lem}
use Rattle.report.proofs.listing.Goals as goal

module _ (out : List ℕ) (t n : ℕ) (big : text_bytes ≤ length out) (small : t < 2 ^ 64) (few : n ≤ most_listed) where
  time_fits : 0 + length (line time_is t) ≤ length out
  time_fits = omega (arith, length_line time_is t, digits_64 t small)

  module _ (out' : List ℕ) {r : ℕ} (p : Written out 0 (line time_is t) r out') where
    count_fits : r + length (line keys_is n) ≤ length out'
    count_fits =
        omega (arith, p.next, length_written time_fits p, length_line time_is t, digits_64 t small, length_line keys_is n, digits_fit 3 n (omega arith))

    module _ (out'' : List ℕ) {s : ℕ} (q : Written out' r (line keys_is n) s out'') where
      rows_fit : s + n * row_bytes ≤ length out''
      rows_fit =
          omega (
            arith,
            p.next,
            length_written time_fits p,
            q.next,
            length_written count_fits q,
            length_line time_is t,
            digits_64 t small,
            length_line keys_is n,
            digits_fit 3 n (omega arith),
          )

      whole : {out''' x : List ℕ} {e : ℕ} → Written out'' s x e out''' → Written out 0 (line time_is t ++ (line keys_is n ++ x)) e out'''
      whole w = then time_fits p (then count_fits q w)

-- last of the records lent is that of the journal's used ones
last_is : (low used u n : ℕ) (j b : List ℕ) → (b ≡ j) × (u ≡ used) → n ≡ last low (records_in u b) → n ≡ last low (records_in used j)
last_is low used u n j b p e = e ∙ ap (λ (x : List ℕ). last low (records_in u x)) p.0 ∙ ap (λ (x : ℕ). last low (records_in x j)) p.1

pub line-time-requires : goal.line-time-requires
line-time-requires c = time_fits c.args.out.now c.last-last.result 0 c.requires.1 (omega arith) (omega arith)

pub line-head-requires : goal.line-head-requires
line-head-requires c =
    let n = c.in-Ok.count in
    let few = list_few c.args.h c.args.keys.now c.args.values.now c.args.journal.now _ _ _ c.requires.0 refl refl (last_is c.args.h.low c.args.h.journal.used _ _ c.args.journal.now _ c.new-records.ensures c.last-last.ensures) _ c.in-Ok.ensures n refl in
    count_fits c.args.out.now c.last-last.result n c.requires.1 (omega arith) few _ c.line-time.ensures

pub rows-requires : goal.rows-requires
rows-requires c =
    let n = c.in-Ok.count in
    let few = list_few c.args.h c.args.keys.now c.args.values.now c.args.journal.now _ _ _ c.requires.0 refl refl (last_is c.args.h.low c.args.h.journal.used _ _ c.args.journal.now _ c.new-records.ensures c.last-last.ensures) _ c.in-Ok.ensures n refl in (
      omega (arith, few),
      omega (arith, few),
      rows_fit c.args.out.now c.last-last.result n c.requires.1 (omega arith) few _ c.line-time.ensures _ c.line-head.ensures,
    )

pub returns-in-Err : goal.returns-in-Err
returns-in-Err c = never_refused c.args.h c.args.keys.now c.args.values.now c.args.journal.now _ _ _ c.requires.0 refl refl (last_is c.args.h.low c.args.h.journal.used _ _ c.args.journal.now _ c.new-records.ensures c.last-last.ensures) _ c.in-Err.ensures _ refl

pub returns-in-Ok : goal.returns-in-Ok
returns-in-Ok c =
    let n = c.in-Ok.count in
    let few = list_few c.args.h c.args.keys.now c.args.values.now c.args.journal.now _ _ _ c.requires.0 refl refl (last_is c.args.h.low c.args.h.journal.used _ _ c.args.journal.now _ c.new-records.ensures c.last-last.ensures) _ c.in-Ok.ensures n refl in
    called
    (list_text_lem c.args.h c.args.keys.now c.args.values.now c.args.journal.now _ _ _ c.requires.0 refl refl (last_is c.args.h.low c.args.h.journal.used _ _ c.args.journal.now _ c.new-records.ensures c.last-last.ensures) _ c.in-Ok.ensures n refl)
    (whole c.args.out.now c.last-last.result n c.requires.1 (omega arith) few _ c.line-time.ensures _ c.line-head.ensures c.rows.ensures)
