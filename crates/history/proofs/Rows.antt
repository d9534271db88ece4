-- Rising rows in front of two columns, by the places of the columns. Assumes nothing.
use Rattle.std.specs.Prelude.{◌≡◌, refl, true, List, [], ◌∷◌, ℕ, zero, suc, ◌<◌, ◌≤◌, eqb, ltb, length, drop, get_or, Some}
use Rattle.std.proofs.Common.{ap, sym, ◌∙◌, arith, length-append, eqb-true, eq-eqb, ne_eqb, ltb-true}
use Rattle.std.proofs.lemmas.Bool.{false≢true}
use Rattle.std.proofs.Math.ListN.{get_or-append}
use Rattle.rules.specs.Bools.{split, and_left, and_right}
use Rattle.rules.specs.Values.{Row, row_value}
use Rattle.rules.specs.Lists.{rising, row_keys}
use Rattle.rules.specs.Columns.{row_values}
use Rattle.rules.specs.ColumnLaws.{length_keys, length_values}
use Rattle.answer.specs.Reply.{Reply, accepted}
use Rattle.history.specs.History.{Commitment, value_in, list_in, is_present}
use Rattle.history.specs.Cells.{Shows, Registers}
use Rattle.history.proofs.Listed.{value_present, history_lists}

-- every key of rising rows is above the bound
rises_above : (m : ℕ) (rows : List Row) → rising m rows ≡ true → (i : ℕ) → i < length rows → m < get_or (row_keys rows) i 0
rises_above m [] h i l = absurd (omega arith)
rises_above m (r ∷ rows) h zero l = ltb-true m r.key (and_left (ltb m r.key) (rising r.key rows) h)
rises_above m (r ∷ rows) h (suc i) l =
    let a = ltb-true m r.key (and_left (ltb m r.key) (rising r.key rows) h) in
    let b = rises_above r.key rows (and_right (ltb m r.key) (rising r.key rows) h) i (omega arith) in
    omega arith

-- and below the keys behind it
rise : (m : ℕ) (rows : List Row) → rising m rows ≡ true → (i j : ℕ) → i < j → j < length rows → get_or (row_keys rows) i 0 < get_or (row_keys rows) j 0
rise m [] h i j k l = absurd (omega arith)
rise m (r ∷ rows) h i zero k l = absurd (omega arith)
rise m (r ∷ rows) h zero (suc j) k l = rises_above r.key rows (and_right (ltb m r.key) (rising r.key rows) h) j (omega arith)
rise m (r ∷ rows) h (suc i) (suc j) k l = rise r.key rows (and_right (ltb m r.key) (rising r.key rows) h) i j (omega arith) (omega arith)

-- the value of a row's key is the row's
row_value_lem : (m : ℕ) (rows : List Row) → rising m rows ≡ true → (i : ℕ) → i < length rows
    → row_value rows (get_or (row_keys rows) i 0) ≡ Some (get_or (row_values rows) i 0)
row_value_lem m [] h i l = absurd (omega arith)
row_value_lem m (r ∷ rows) h zero l = rw (eq-eqb r.key r.key refl)
row_value_lem m (r ∷ rows) h (suc i) l =
    let t = and_right (ltb m r.key) (rising r.key rows) h in
    let a = rises_above r.key rows t i (omega arith) in
    rw (ne_eqb r.key (get_or (row_keys rows) i 0) (λ e. omega arith)) (row_value_lem r.key rows t i (omega arith))

-- a key with a value has a row
row_of : (k : ℕ) (rows : List Row) → is_present (row_value rows k) ≡ true → (i : ℕ) × (i < length rows) × (get_or (row_keys rows) i 0 ≡ k)
row_of k [] h = absurd (false≢true h)
row_of k (r ∷ rows) h =
    split (eqb r.key k)
    (λ e. (0, omega arith, eqb-true r.key k e))
    (λ e. let p = row_of k rows (rw e at h) in (suc p.0, omega (arith, p.1), p.2))

-- The list of a history, shown in front of two columns, is exactly its registers.
pub shown_registers : (cs : List Commitment) (t : ℕ) (listed contents : List ℕ) → length listed ≡ length contents → length (list_in cs t) ≤ length listed
    → (a : Reply) (listed' contents' : List ℕ) → Shows (list_in cs t) 0 listed contents a listed' contents'
    → (n : ℕ) × (a ≡ accepted (Some n)) × Registers cs t n listed' contents'
shown_registers cs t listed contents p fits a listed' contents' s =
    let rows = list_in cs t in
    let l = history_lists cs t in
    let key : (i : ℕ) → i < length rows → get_or listed' i 0 ≡ get_or (row_keys rows) i 0 =
    λ i b. ap (λ (c : List ℕ). get_or c i 0) s.keys_column ∙ get_or-append (row_keys rows) (drop (length rows) listed) 0 i (omega (arith, length_keys rows))
    in
    let cell : (i : ℕ) → i < length rows → get_or contents' i 0 ≡ get_or (row_values rows) i 0 =
    λ i b. ap (λ (c : List ℕ). get_or c i 0) s.values_column ∙ get_or-append (row_values rows) (drop (length rows) contents) 0 i (omega (arith, length_values rows))
    in
    let value : (i : ℕ) → i < length rows → Some (get_or contents' i 0) ≡ value_in cs t (get_or listed' i 0) =
    λ i b.
    let q = rises_above 0 rows l.rises i b in
    ap Some (cell i b)
    ∙ sym (row_value_lem 0 rows l.rises i b)
    ∙ l.values (get_or (row_keys rows) i 0) (omega arith)
    ∙ sym (ap (value_in cs t) (key i b))
    in (
      length rows,
      s.reply,
      record {
        in_keys = omega (arith, ap length s.keys_column, length-append (row_keys rows) (drop (length rows) listed), length_keys rows);
        in_values = omega (arith, ap length s.values_column, length-append (row_values rows) (drop (length rows) contents), length_values rows);
        rise = λ i j b c. let d = rise 0 rows l.rises i j b c in omega (arith, key i (omega arith), key j c);
        each =
            λ k b c.
            let q = row_of k rows (ap is_present (l.values k b) ∙ value_present cs t k ∙ c) in
            (q.0, q.1, key q.0 q.1 ∙ q.2);
        only =
            λ i b. (
              omega (arith, key i b, rises_above 0 rows l.rises i b),
              sym (value_present cs t (get_or listed' i 0)) ∙ sym (ap is_present (value i b)),
            );
        value = value;
      },
    )
