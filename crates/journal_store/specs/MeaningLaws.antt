-- What accepted calls make of the cells means what they make of the store, and the shape stays good. Assumes nothing.
use Rattle.std.specs.Prelude.{◌≡◌, List, ◌++◌, ℕ, ◌+◌, ◌*◌, ◌/◌, ◌^◌, ◌<◌, ◌≤◌, length, drop}
use Rattle.std.proofs.Math.Nat.{min-le_right, min-le_left}
use Rattle.std.proofs.Common.{add-one, arith, length-append, length-drop}
use Rattle.rules.specs.declared.Record.{Record}
use Rattle.rules.specs.declared.Effect.TheVariants.{Assign, Add}
use Rattle.rules.specs.Limits.{most_records, most_rows, numbers_end}
use Rattle.rules.specs.Kinds.{record_size}
use Rattle.rules.specs.Passed.{fitting}
use Rattle.rules.specs.Times.{above, next}
use Rattle.rules.specs.Values.{Row}
use Rattle.rules.specs.Lists.{row_keys}
use Rattle.rules.specs.Columns.{row_values}
use Rattle.rules.specs.ColumnLaws.{front_rows, length_keys, length_values}
use Rattle.rules.specs.Checkpoints.{kept}
use Rattle.rules.specs.Recovery.{done, survivors}
use Rattle.rules.specs.Calls.{Store, Call, Begin, Update, Abort, Commit, next_of, list_of, record_of, answer, checkpoint_refusal, checkpoint_answer, push, checkpointed, kept_of}
use Rattle.record.specs.Bytes.{Bytes, appended}
use Rattle.record.specs.Laid.{fit_records}
use Rattle.record.specs.Laws.{Fit, records_appended, length_records, length_appended}
use Rattle.compact.specs.Compact.{compacted}
use Rattle.compact.specs.Laws.{length_compacted, length_kept, length_only, records_compacted, fit_kept, fit_only}
use Rattle.journal_store.specs.declared.Head.{Head}
use Rattle.journal_store.specs.Shape.{Shaped, room_of, row_room, meaning, SizedCall}
use Rattle.journal_store.specs.Heads.{grown, checkpoint_head, recovered_head}
use Rattle.journal_store.specs.CallContracts.{surviving, Recoverable}
use Rattle.journal_store.specs.Laws.{room_left, need_some}

-- the record of a call that is given such numbers fits its bytes
pub fit_call : (c : Call) (s : Store) → SizedCall c → Fit (record_of c s)
fit_call (Begin t) s z =
    record {
      kind = omega arith;
      zeros = omega arith;
      transaction = omega (arith, min-le_right (above s.floor s.records) numbers_end);
      key = omega arith;
      value = omega arith;
      time = z.time;
    }
fit_call (Update n k (Assign v)) s z =
    record { kind = omega arith; zeros = omega arith; transaction = z.transaction; key = z.key; value = z.value; time = omega arith }
fit_call (Update n k (Add d)) s z =
    record { kind = omega arith; zeros = omega arith; transaction = z.transaction; key = z.key; value = z.value; time = omega arith }
fit_call (Abort n) s z =
    record { kind = omega arith; zeros = omega arith; transaction = z.transaction; key = omega arith; value = omega arith; time = omega arith }
fit_call (Commit n t) s z =
    record { kind = omega arith; zeros = omega arith; transaction = z.transaction; key = omega arith; value = omega arith; time = z.time }

-- one record more in the cells is one record more in the meaning
pub push_meaning : (h : Head) (keys values j : List ℕ) (r : Record) → Fit r → h.journal.used * record_size + record_size ≤ length j
    → meaning (grown h) keys values (appended j h.journal.used r) ≡ push r (meaning h keys values j)
push_meaning h keys values j r f l = rw (add-one, records_appended j h.journal.used r f l)

-- the cells that an accepted checkpoint leaves mean the checkpointed store
pub checkpoint_meaning : (t : ℕ) (h : Head) (keys values j : List ℕ) → t < 2 ^ 64 → Bytes j
    → meaning (checkpoint_head t (meaning h keys values j))
    (row_keys (list_of t (meaning h keys values j)) ++ drop (length (list_of t (meaning h keys values j))) keys)
    (row_values (list_of t (meaning h keys values j)) ++ drop (length (list_of t (meaning h keys values j))) values)
    (compacted (kept_of t (meaning h keys values j)) (h.journal.used * record_size) j)
    ≡ checkpointed t (meaning h keys values j)
checkpoint_meaning t h keys values j small bytes =
    let s = meaning h keys values j in
    let rows = list_of t s in
    rw (
      front_rows rows (drop (length rows) keys) (drop (length rows) values),
      records_compacted (kept_of t s) (h.journal.used * record_size) j
          (fit_kept t s.records s.records small (fit_records h.journal.used j bytes)),
    )

-- the cells that an accepted recovery leaves mean the store with the surviving records of transactions that committed
pub recover_meaning : (h : Head) (keys values j : List ℕ) (survived : ℕ) → Bytes j
    → (meaning (recovered_head h (surviving survived j)) keys values (compacted (survivors (surviving survived j)) survived j)).records
    ≡ survivors (surviving survived j)
recover_meaning h keys values j survived bytes =
    records_compacted (survivors (surviving survived j)) survived j
    (fit_only (done (surviving survived j)) (surviving survived j) (fit_records (survived / record_size) j bytes))

module _ (h : Head) (keys values j : List ℕ) (w : Shaped h (length keys) (length values) (length j)) where
  -- one record more
  pub call_shaped : (c : Call) → answer (room_of (length j)) c (meaning h keys values j) ≡ 0
      → Shaped (grown h) (length keys) (length values)
      (length (appended j h.journal.used (record_of c (meaning h keys values j))))
  call_shaped c e =
      let s = meaning h keys values j in
      let l = room_left (room_of (length j)) c s e in
      let n = length_records h.journal.used j in
      let k = need_some c s in
      let a = min-le_left most_records (length j / record_size) in
      let b = min-le_right most_records (length j / record_size) in
      rw (length_appended j h.journal.used (record_of c s) (omega arith))
      (record {
        rows_limit = w.rows_limit;
        rows = w.rows;
        paired = w.paired;
        used_limit = omega arith;
        used = omega arith;
        floored = w.floored;
      })

  -- the list in the base, the records kept in the journal
  module _ (t : ℕ) (e : checkpoint_answer (row_room (length keys)) t (meaning h keys values j) ≡ 0) where
    abbrev rows : List Row
    rows = list_of t (meaning h keys values j)

    fits : (length rows ≤ most_rows) × (length rows ≤ length keys)
    fits =
        let l = (fitting (checkpoint_refusal t (meaning h keys values j)) (length rows) (row_room (length keys)) e).1 in
        (omega (arith, min-le_left most_rows (length keys)), omega (arith, min-le_right most_rows (length keys)))

    pub checkpoint_shaped : (next_of (meaning h keys values j) ≡ 0 → ⊥)
        → Shaped (checkpoint_head t (meaning h keys values j))
        (length (row_keys rows ++ drop (length rows) keys))
        (length (row_values rows ++ drop (length rows) values))
        (length (compacted (kept_of t (meaning h keys values j)) (h.journal.used * record_size) j))
    checkpoint_shaped some =
        let rs = (meaning h keys values j).records in
        let n = length_records h.journal.used j in
        let m = length_kept t rs rs in
        let p = w.paired in
        rw (
          length-append (row_keys rows) (drop (length rows) keys),
          length-append (row_values rows) (drop (length rows) values),
          length_keys rows,
          length_values rows,
          length-drop (length rows) keys,
          length-drop (length rows) values,
          length_compacted (kept t rs) (h.journal.used * record_size) j (omega arith) w.used,
        )
        (record {
          rows_limit = fits.0;
          rows = omega (arith, fits.1);
          paired = omega (arith, fits.1);
          used_limit = omega (arith, w.used_limit);
          used = omega (arith, w.used);
          floored = some;
        })

-- what recovery leaves
pub recover_shaped : (h : Head) (keys values j : List ℕ) (survived : ℕ) → h.base.rows ≤ most_rows → h.base.rows ≤ length keys → length keys ≡ length values
    → Recoverable (length j) survived → (next h.floor (surviving survived j) ≡ 0 → ⊥)
    → Shaped (recovered_head h (surviving survived j)) (length keys) (length values) (length (compacted (survivors (surviving survived j)) survived j))
recover_shaped h keys values j survived limit rows paired w some =
    let rs = surviving survived j in
    let n = length_records (survived / record_size) j in
    let m = length_only (done rs) rs in
    rw (length_compacted (survivors rs) survived j (omega (arith, w.there)) w.within)
    (record {
      rows_limit = limit;
      rows = rows;
      paired = paired;
      used_limit = omega (arith, w.few);
      used = omega (arith, w.there, w.within);
      floored = some;
    })
