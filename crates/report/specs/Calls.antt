-- What list and recover of the journal store give here: a list at last with room for every row is never refused, and the reply of recover decides
-- the text. Assumes nothing.
use Rattle.std.specs.Prelude.{◌≡◌, refl, Bool, true, false, cond, not, ◌&&◌, List, ◌++◌, ℕ, ◌≤◌, eqb, leb, length, take, drop, Option, Some, None, Result, Ok, Err}
use Rattle.std.proofs.Common.{sym, ap, ◌∙◌, zero-add, arith, length-append, le-ltb, leb-true, leb-false, eqb-true}
use Rattle.std.proofs.Math.Nat.{le-min}
use Rattle.std.proofs.lemmas.Bool.{eqb-false, not-true}
use Rattle.rules.specs.declared.Record.{Record}
use Rattle.rules.specs.Bools.{split, not_both, and_left, and_right}
use Rattle.rules.specs.Limits.{most_rows, numbers_end}
use Rattle.rules.specs.Effects.{or_zero}
use Rattle.rules.specs.Times.{last, above, next}
use Rattle.rules.specs.Values.{Row}
use Rattle.rules.specs.Lists.{row_keys}
use Rattle.rules.specs.Columns.{row_values, first_rows}
use Rattle.rules.specs.ColumnLaws.{front_rows}
use Rattle.rules.specs.Calls.{list_answer, last_of, list_of}
use Rattle.rules.specs.Recovery.{walk, survivors}
use Rattle.record.specs.Bytes.{Bytes, records_in}
use Rattle.record.specs.Laws.{length_records}
use Rattle.answer.specs.declared.Refusal.{Refusal}
use Rattle.answer.specs.Reply.{Reply, number_of, place_number, refused, of_done, of_listed, after}
use Rattle.answer.specs.Laws.{refused_some}
use Rattle.compact.specs.Compact.{compacted}
use Rattle.journal.specs.PastLaws.{low_last}
use Rattle.journal_store.specs.declared.Head.{Head}
use Rattle.journal_store.specs.Shape.{meaning, Shaped}
use Rattle.journal_store.specs.Heads.{recovered_head}
use Rattle.journal_store.specs.CallContracts.{is_list_shaped, list_number, ListedBy, rising_keys, journal_bytes, is_recoverable, surviving, walked_reply, recover_reply, Recovered, Recoverable}
use Rattle.journal_store.specs.ShapeLaws.{shape_passes, recoverable}
use Rattle.journal_store.specs.Tests.{list_rows}
use Rattle.journal_store.specs.MeaningLaws.{recover_meaning, recover_shaped}
use Rattle.report.specs.Text.{time_is, keys_is, line, row_lines, list_text, refused_text, base_of, most_listed, walked_text, report_text, walked_cells, report_cells}
use Rattle.report.specs.Written.{Written, Reported}
use Rattle.report.specs.Laws.{list_length, front_length, above_floor}

module _ (h : Head) (keys values j : List ℕ) (t : ℕ) (listed contents : List ℕ) (a : Shaped h (length keys) (length values) (length j))
    (room : length listed ≡ most_listed) (same : length contents ≡ most_listed) (e : t ≡ last h.low (records_in h.journal.used j)) where
  shaped : is_list_shaped h (length keys) (length values) (length j) (length listed) (length contents) ≡ true
  shaped = rw (room, same, shape_passes h (length keys) (length values) (length j) a)

  -- a row for each row of the base and each record is the most
  few_rows : length (list_of t (meaning h keys values j)) ≤ most_listed
  few_rows =
      let s = meaning h keys values j in
      omega (
        arith,
        list_length s.base s.records t,
        front_length h.base.rows keys values,
        length_records h.journal.used j,
        a.rows_limit,
        a.used_limit,
      )

  -- the list has room, and its time is neither too old nor in the future
  accepted_number : list_number h keys values j t (length listed) (length contents) ≡ 0
  accepted_number =
      let s = meaning h keys values j in
      let fits : length (list_of t s) ≤ length listed = rw room few_rows in
      ap (λ (b : Bool). cond b (list_answer (length listed) t s) 1) shaped
      ∙ sym (ap (λ (r : Reply). r.number) (list_rows (length listed) t s (rw e (low_last h.low s.records)) false (sym (le-ltb (last_of s) t (omega (arith, e)))) refl (length (list_of t s)) refl fits))

  module _ (answer : Result ℕ Refusal) {listed' contents' : List ℕ} (b : ListedBy h keys values j t listed contents (of_listed answer) listed' contents') where
    pub never_refused : {P : Type 0} (x : Refusal) → answer ≡ Err x → P
    never_refused x f =
        let z : number_of x ≡ 0 = sym (ap (λ (y : Result ℕ Refusal). (of_listed y).number) f) ∙ ap (λ (r : Reply). r.number) b.reply ∙ accepted_number in
        not_both (eqb (number_of x) 0) (rw z) (refused_some x)

    list_count : (n : ℕ) → answer ≡ Ok n → n ≡ length (list_of t (meaning h keys values j))
    list_count n f =
        sym (ap (λ (y : Result ℕ Refusal). or_zero (of_listed y).value) f) ∙ ap (λ (r : Reply). or_zero r.value) b.reply ∙ rw accepted_number

    -- at most a row for each row of the base and each record
    pub list_few : (n : ℕ) → answer ≡ Ok n → n ≤ most_listed
    list_few n f = omega (arith, list_count n f, few_rows)

    -- what is printed is the list at last
    pub list_text_lem : (n : ℕ) → answer ≡ Ok n
        → line time_is t ++ (line keys_is n ++ row_lines (first_rows n listed' contents')) ≡ list_text h.low (base_of h keys values) (records_in h.journal.used j)
    list_text_lem n f =
        let rows = list_of t (meaning h keys values j) in
        let k : listed' ≡ row_keys rows ++ drop (length rows) listed = b.keys_column ∙ rw accepted_number in
        let v : contents' ≡ row_values rows ++ drop (length rows) contents = b.values_column ∙ rw accepted_number in
        let c : first_rows (length rows) listed' contents' ≡ rows = rw (k, v) (front_rows rows (drop (length rows) listed) (drop (length rows) contents)) in
        rw (list_count n f, c, e)

-- what a shape that can be recovered says of head and base
record Able (h : Head) (keys : List ℕ) (values bytes survived : ℕ) : Type 0 where
  limit : h.base.rows ≤ most_rows
  rows : h.base.rows ≤ length keys
  paired : length keys ≡ values
  lent : Recoverable bytes survived
  floored : h.floor ≡ 0 → ⊥

able : (h : Head) (keys : List ℕ) (values bytes survived : ℕ) → is_recoverable h keys values bytes survived ≡ true → Able h keys values bytes survived
able h keys values bytes survived e =
    let a = leb h.base.rows most_rows in
    let b = leb h.base.rows (length keys) in
    let c = eqb (length keys) values in
    let d = leb survived journal_bytes in
    let f = leb survived bytes in
    let g = not (eqb h.floor 0) in
    let k = rising_keys 0 (take h.base.rows keys) in
    let e1 = and_right a (b && (c && (d && (f && (g && k))))) e in
    let e2 = and_right b (c && (d && (f && (g && k)))) e1 in
    let e3 = and_right f (g && k) (and_right d (f && (g && k)) (and_right c (d && (f && (g && k))) e2)) in
    record {
      limit = leb-true _ _ (and_left a (b && (c && (d && (f && (g && k))))) e);
      rows = leb-true _ _ (and_left b (c && (d && (f && (g && k)))) e1);
      paired = eqb-true _ _ (and_left c (d && (f && (g && k))) e2);
      lent = recoverable h keys values bytes survived e;
      floored = eqb-false _ _ (not-true _ (and_left g k e3));
    }

-- a next number of 0 is no floor's
next_some : (floor : ℕ) (rs : List Record) → next floor rs ≡ 0 → floor ≡ 0
next_some floor rs z =
    split (leb 1 floor)
    (λ e. let l : 1 ≤ floor = leb-true 1 floor e in
    absurd (omega (arith, z, le-min {k = 1} {a = above floor rs} {b = numbers_end} (omega (arith, above_floor floor rs)) (omega arith))))
    (λ e. omega (arith, leb-false 1 floor e))

-- the text that a reply of recover gives
abbrev reply_text : Reply → ℕ → List Row → List Record → List ℕ
reply_text a low base rs = cond (eqb a.number 0) (list_text low base (survivors rs)) (refused_text a.number (or_zero a.value))

walked_text_lem : (w : Option ℕ) (low : ℕ) (base : List Row) (rs : List Record) → reply_text (walked_reply w) low base rs ≡ walked_text w low base rs
walked_text_lem None low base rs = refl
walked_text_lem (Some i) low base rs = refl

walked_cells_lem : (w : Option ℕ) (j : List ℕ) (survived : ℕ)
    → after (walked_reply w).number (compacted (survivors (surviving survived j)) survived j) j ≡ walked_cells w j survived
walked_cells_lem None j survived = refl
walked_cells_lem (Some i) j survived = refl

module _ (h : Head) (keys values j : List ℕ) (survived : ℕ) where
  abbrev text_of : Reply → List ℕ
  text_of a = reply_text a h.low (base_of h keys values) (surviving survived j)

  reply_text_lem : text_of (recover_reply h keys values j survived) ≡ report_text h keys values j survived
  reply_text_lem =
      split (is_recoverable h keys (length values) (length j) survived)
      (λ f. rw f (walked_text_lem (walk h.low (surviving survived j)) h.low (base_of h keys values) (surviving survived j)))
      (λ f. rw f)

  reply_cells : after (recover_reply h keys values j survived).number (compacted (survivors (surviving survived j)) survived j) j
      ≡ report_cells h keys values j survived
  reply_cells =
      split (is_recoverable h keys (length values) (length j) survived)
      (λ f. rw f (walked_cells_lem (walk h.low (surviving survived j)) j survived))
      (λ f. rw f)

  module _ (answer : Result Unit Refusal) {head : Head} {exit : List ℕ} (d : Recovered h keys values j survived (of_done answer) head exit) where
    pub recover_cells : exit ≡ report_cells h keys values j survived
    recover_cells = d.cells ∙ reply_cells

    pub refused_text_lem : (x : Refusal) → answer ≡ Err x → refused_text (number_of x) (place_number x) ≡ report_text h keys values j survived
    refused_text_lem x f =
        let z : text_of (refused x) ≡ refused_text (number_of x) (place_number x) = rw (refused_some x) in
        sym z ∙ ap text_of (sym (ap of_done f) ∙ d.reply) ∙ reply_text_lem

    module _ (f : answer ≡ Ok tt) where
      number_zero : (recover_reply h keys values j survived).number ≡ 0
      number_zero = sym (ap (λ (a : Reply). a.number) d.reply) ∙ ap (λ (y : Result Unit Refusal). (of_done y).number) f

      headed : head ≡ recovered_head h (surviving survived j)
      headed = d.headed ∙ rw number_zero

      pub recovered_text : Bytes j → list_text head.low (base_of head keys values) (records_in head.journal.used exit) ≡ report_text h keys values j survived
      recovered_text bytes =
          let rs = surviving survived j in
          let c : exit ≡ compacted (survivors rs) survived j = d.cells ∙ rw number_zero in
          let m : records_in head.journal.used exit ≡ survivors rs = rw (headed, c) (recover_meaning h keys values j survived bytes) in
          ap (list_text head.low (base_of head keys values)) m
          ∙ ap (λ (x : Head). list_text x.low (base_of x keys values) (survivors rs)) headed
          ∙ ap text_of (sym (ap of_done f) ∙ d.reply)
          ∙ reply_text_lem

      -- what was recovered is of good shape
      pub recovered_shaped : Shaped head (length keys) (length values) (length exit)
      recovered_shaped =
          let w = able h keys (length values) (length j) survived
          (split (is_recoverable h keys (length values) (length j) survived) (λ y. y)
          (λ y. let z : ◌≡◌ {A = ℕ} 1 0 = rw y at number_zero in absurd (omega (arith, z))))
          in
          let c : exit ≡ compacted (survivors (surviving survived j)) survived j = d.cells ∙ rw number_zero in
          let n : next h.floor (surviving survived j) ≡ 0 → ⊥ =
          λ z. w.floored (next_some h.floor (surviving survived j) z)
          in
          rw (headed, c) (recover_shaped h keys values j survived w.limit w.rows w.paired w.lent n)

-- a text written from the start of the buffer is the report
pub reported : {h : Head} {keys values j out exit out' x : List ℕ} {survived r : ℕ} → Written out 0 x r out' → x ≡ report_text h keys values j survived
    → exit ≡ report_cells h keys values j survived → Reported h keys values j survived out r exit out'
reported {h} {keys} {values} {j} {out} {exit} {out'} {x} {survived} {r} p e f =
    let n : r ≡ length x = p.next ∙ zero-add (length x) in
    let b : out' ≡ x ++ drop (length x) out = p.bytes ∙ ap (λ (m : ℕ). x ++ drop m out) (zero-add (length x)) in
    record {
      count = n ∙ ap length e;
      text = b ∙ ap (λ (y : List ℕ). y ++ drop (length y) out) e;
      cells = f;
      within = omega (arith, n, ap length b, length-append x (drop (length x) out));
    }
