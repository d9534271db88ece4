-- The one induction over sequences: what the cells that calls reach mean is tied to the history of the accepted deeds, and their shape is good.
-- Assumes nothing.
use Rattle.std.specs.Prelude.{◌≡◌, refl, true, not, ◌&&◌, List, ◌∷◌, ◌++◌, ℕ, suc, ◌+◌, ◌-◌, ◌*◌, ◌/◌, ◌^◌, ◌<◌, ◌≤◌, eqb, leb, length, take, drop}
use Rattle.std.proofs.Common.{ap, sym, ◌∙◌, subst, arith, take-append-drop, length-take-le, eqb-true, leb-true}
use Rattle.std.proofs.Math.Nat.{min-le_right}
use Rattle.rules.specs.Limits.{most_records, most_rows}
use Rattle.rules.specs.declared.Record.{Record}
use Rattle.rules.specs.Bools.{split, and_left, and_right}
use Rattle.rules.specs.Kinds.{record_size}
use Rattle.rules.specs.Times.{next}
use Rattle.rules.specs.Lists.{row_keys}
use Rattle.rules.specs.Columns.{row_values}
use Rattle.rules.specs.Recovery.{survivors}
use Rattle.rules.specs.Calls.{Store, next_of, list_of, Call, record_of, refusal, checkpoint_refusal, need, answer, checkpoint_answer, kept_of}
use Rattle.rules.specs.Passed.{fitting}
use Rattle.rules.proofs.RoomLaws.{Roomy, room_for_each}
use Rattle.record.specs.Bytes.{Bytes, records_in, appended}
use Rattle.record.specs.Laws.{records_front, length_records, drop_records}
use Rattle.answer.specs.Reply.{Reply, after}
use Rattle.compact.specs.Compact.{compacted}
use Rattle.journal_store.specs.declared.Head.{Head}
use Rattle.journal_store.specs.Shape.{is_shaped, Shaped, room_of, row_room, meaning, SizedCall}
use Rattle.journal_store.specs.Heads.{grown, checkpoint_head, recovered_head}
use Rattle.journal_store.specs.CallContracts.{Wrote, number, checkpoint_number, rising_keys, journal_bytes, is_recoverable, surviving, recover_reply, Recoverable, Recovered}
use Rattle.journal_store.specs.Laws.{room_left, need_some}
use Rattle.journal_store.specs.ShapeLaws.{shape, recoverable}
use Rattle.journal_store.specs.MeaningLaws.{fit_call, push_meaning, call_shaped, checkpoint_meaning, checkpoint_shaped, recover_meaning, recover_shaped}
use Rattle.history.specs.History.{Deed, Did, Checkpointed, restarted}
use Rattle.history.proofs.Course.{Course, lose, recovered}
use Rattle.history.proofs.Tied.{Tied, tied_restart, tied_call, tied_checkpoint, tied_start}
use Rattle.history.proofs.Room.{room_checkpoint, room_restart}
use Rattle.history.specs.Cells.{Cells, meaning_of, end, Holds, Cut, lost, counting, Reached}
use Rattle.history.specs.Cells as cells
use Rattle.journal_store.specs.CallContracts as checkpoint

-- the store, its deeds and its records since, as the proofs on meanings have them
abbrev pub course_of : List Deed → ℕ → Cells → Course
course_of ds since x = record { store = meaning_of x; deeds = ds; since = since }

-- what the cells mean is tied to the history of the deeds; where the calls had the same room, each running transaction has a free record
pub record Meant (room : ℕ → Type 0) (ds : List Deed) (since : ℕ) (x : Cells) : Type 0 where
  pub tie : Tied (course_of ds since x)
  pub shaped : Shaped x.head (length x.keys) (length x.values) (length x.journal)
  pub steady : (bytes : ℕ) → ((n : ℕ) → room n → n ≡ bytes) → Roomy (room_of bytes) (meaning_of x)

-- the first records are read from the first bytes
newest_prefix : (n m : ℕ) (b : List ℕ) → n * record_size ≤ m → m ≤ length b → records_in n (take m b) ≡ records_in n b
newest_prefix n m b i l =
    let e = length-take-le m b l in
    sym (records_front (take m b) (drop m b) n (omega arith)) ∙ ap (records_in n) (take-append-drop m b)

pub newest_held : (n m : ℕ) (a b : List ℕ) → n * record_size ≤ m → m ≤ length a → m ≤ length b → take m a ≡ take m b → records_in n a ≡ records_in n b
newest_held n m a b i l k e = sym (newest_prefix n m a i l) ∙ ap (records_in n) e ∙ newest_prefix n m b i k

-- what is lent means what the store means
pub held_meaning : (x : Cells) (keys values journal : List ℕ) → Shaped x.head (length x.keys) (length x.values) (length x.journal)
    → Shaped x.head (length keys) (length values) (length journal) → Holds x (end x) keys values journal
    → meaning x.head keys values journal ≡ meaning_of x
held_meaning x keys values journal s w h =
    rw (
      h.keys_held,
      h.values_held,
      newest_held x.head.journal.used (end x) journal x.journal (omega arith) w.used s.used h.journal_held,
    )

-- an accepted call was lent a good shape
pub shape_accepted : (c : Call) (h : Head) (keys values j : List ℕ) → number c h keys values j ≡ 0 → is_shaped h (length keys) (length values) (length j) ≡ true
shape_accepted c h keys values j e =
    split (is_shaped h (length keys) (length values) (length j))
    (λ b. b)
    (λ b. let z : ◌≡◌ {A = ℕ} 1 0 = rw b at e in absurd (omega arith))

-- a shape that can be recovered has its base rows in paired columns
paired : (h : Head) (keys : List ℕ) (values bytes survived : ℕ) → is_recoverable h keys values bytes survived ≡ true
    → (h.base.rows ≤ length keys) × (length keys ≡ values)
paired h keys values bytes survived e =
    let b = leb h.base.rows (length keys) in
    let c = eqb (length keys) values in
    let rest = leb survived journal_bytes && (leb survived bytes && (not (eqb h.floor 0) && rising_keys 0 (take h.base.rows keys))) in
    let f = and_right (leb h.base.rows most_rows) (b && (c && rest)) e in
    (leb-true _ _ (and_left b (c && rest) f), eqb-true _ _ (and_left c rest (and_right b (c && rest) f)))

module _ {room : ℕ → Type 0} {ds : List Deed} {since : ℕ} {x : Cells} (m : Meant room ds since x) where
  module _ (c : Call) (z : SizedCall c) (keys values journal : List ℕ) (r : room (length journal))
      (h : is_shaped x.head (length keys) (length values) (length journal) ≡ true → Holds x (end x) keys values journal) where
    -- the cells with one record more
    abbrev longer : Cells
    longer =
        record {
          head = grown x.head;
          keys = keys;
          values = values;
          journal = appended journal x.head.journal.used (record_of c (meaning x.head keys values journal));
        }

    accepted : number c x.head keys values journal ≡ 0 → Meant room (Did c ∷ ds) (suc since) longer
    accepted e =
        let b = shape_accepted c x.head keys values journal e in
        let w : Shaped x.head (length keys) (length values) (length journal) = shape b in
        let q = held_meaning x keys values journal m.shaped w (h b) in
        let s = meaning x.head keys values journal in
        let a : answer (room_of (length journal)) c s ≡ 0 = rw b at e in
        let l = room_left (room_of (length journal)) c s a in
        let n = length_records x.head.journal.used journal in
        let k = need_some c s in
        let i = min-le_right most_records (length journal / record_size) in
        let p = push_meaning x.head keys values journal (record_of c s) (fit_call c s z) (omega arith) in
        let y : course_of ds since x ≡ record { store = s; deeds = ds; since = since } = ap (λ (t : Store). record { store = t; deeds = ds; since = since }) (sym q) in
        let ok = (fitting (refusal c s) (length s.records + need c s) (room_of (length journal)) a).0 in
        record {
          tie =
              subst (λ (t : Store). Tied (record { store = t; deeds = Did c ∷ ds; since = suc since })) (sym p)
              (tied_call (record { store = s; deeds = ds; since = since }) (subst Tied y m.tie) c ok);
          shaped = call_shaped x.head keys values journal w c a;
          steady =
              λ bytes all.
              let e : length journal ≡ bytes = all (length journal) r in
              let k : Roomy (room_of (length journal)) s =
              subst (λ (i : ℕ). Roomy (room_of i) s) (sym e) (subst (Roomy (room_of bytes)) (sym q) (m.steady bytes all))
              in
              subst (λ (i : ℕ). Roomy (room_of i) (meaning_of longer)) e
              (subst (Roomy (room_of (length journal))) (sym p) (room_for_each (room_of (length journal)) s k c a));
        }

    pub meant_called : (a : Reply) (head : Head) (journal' : List ℕ) → Wrote c x.head keys values journal a head journal'
        → Meant room (after a.number (Did c ∷ ds) ds) (after a.number (suc since) since)
        (after a.number (record { head = head; keys = keys; values = values; journal = journal' }) x)
    meant_called a head journal' w =
        let told : a.number ≡ number c x.head keys values journal = ap (λ (r : Reply). r.number) w.reply in
        split (eqb a.number 0)
        (λ e.
        let q : number c x.head keys values journal ≡ 0 = sym told ∙ eqb-true a.number 0 e in
        let f : head ≡ grown x.head = w.headed ∙ ap (λ (n : ℕ). after n (grown x.head) x.head) q in
        let g : journal' ≡ longer.journal = w.cells ∙ ap (λ (n : ℕ). after n longer.journal journal) q in
        rw (e, f, g) (accepted q))
        (λ e. rw e m)

  -- a checkpoint
  module _ (T : ℕ) (small : T < 2 ^ 64) (keys values journal : List ℕ) (spelled : Bytes journal)
      (h : is_shaped x.head (length keys) (length values) (length journal) ≡ true → Holds x (end x) keys values journal) where
    abbrev before : Store
    before = meaning x.head keys values journal

    -- the cells that it leaves
    abbrev shorter : Cells
    shorter =
        record {
          head = checkpoint_head T before;
          keys = row_keys (list_of T before) ++ drop (length (list_of T before)) keys;
          values = row_values (list_of T before) ++ drop (length (list_of T before)) values;
          journal = compacted (kept_of T before) (end x) journal;
        }

    checkpoint_accepted : checkpoint_number T x.head keys values journal ≡ 0 → Meant room (Checkpointed T ∷ ds) 0 shorter
    checkpoint_accepted e =
        let b : is_shaped x.head (length keys) (length values) (length journal) ≡ true =
        split (is_shaped x.head (length keys) (length values) (length journal))
        (λ b. b)
        (λ b. let z : ◌≡◌ {A = ℕ} 1 0 = rw b at e in absurd (omega arith))
        in
        let w : Shaped x.head (length keys) (length values) (length journal) = shape b in
        let q = held_meaning x keys values journal m.shaped w (h b) in
        let a : checkpoint_answer (row_room (length keys)) T before ≡ 0 = rw b at e in
        let p = checkpoint_meaning T x.head keys values journal small spelled in
        let y : course_of ds since x ≡ record { store = before; deeds = ds; since = since } =
        ap (λ (t : Store). record { store = t; deeds = ds; since = since }) (sym q)
        in
        let h' = subst Tied y m.tie in
        let ok = (fitting (checkpoint_refusal T before) (length (list_of T before)) (row_room (length keys)) a).0 in
        let tied = tied_checkpoint (record { store = before; deeds = ds; since = since }) h' T ok in
        let some : next_of before ≡ 0 → ⊥ = λ z. let f = tied.floored in omega arith in
        record {
          tie = subst (λ (t : Store). Tied (record { store = t; deeds = Checkpointed T ∷ ds; since = 0 })) (sym p) tied;
          shaped = checkpoint_shaped x.head keys values journal w T a some;
          steady =
              λ bytes all.
              let k = subst (Roomy (room_of bytes)) (sym q) (m.steady bytes all) in
              subst (Roomy (room_of bytes)) (sym p) (room_checkpoint (room_of bytes) (record { store = before; deeds = ds; since = since }) h' k T ok);
        }

    pub meant_checkpointed : (a : Reply) (head : Head) (keys' values' journal' : List ℕ)
        → checkpoint.Checkpointed T x.head keys values journal a head keys' values' journal'
        → Meant room (after a.number (Checkpointed T ∷ ds) ds) (after a.number 0 since)
        (after a.number (record { head = head; keys = keys'; values = values'; journal = journal' }) x)
    meant_checkpointed a head keys' values' journal' w =
        let told : a.number ≡ checkpoint_number T x.head keys values journal = ap (λ (r : Reply). r.number) w.reply in
        split (eqb a.number 0)
        (λ e.
        let q : checkpoint_number T x.head keys values journal ≡ 0 = sym told ∙ eqb-true a.number 0 e in
        let f : head ≡ shorter.head = w.headed ∙ ap (λ (n : ℕ). after n shorter.head x.head) q in
        let g : keys' ≡ shorter.keys = w.keys_column ∙ ap (λ (n : ℕ). after n shorter.keys keys) q in
        let i : values' ≡ shorter.values = w.values_column ∙ ap (λ (n : ℕ). after n shorter.values values) q in
        let j : journal' ≡ shorter.journal = w.cells ∙ ap (λ (n : ℕ). after n shorter.journal journal) q in
        rw (e, f, g, i, j) (checkpoint_accepted q))
        (λ e. rw e m)

  -- the records that survived are the store's, but for the newest
  pub survived_records : (survived : ℕ) → Cut x since survived → (keys values journal : List ℕ) → Recoverable (length journal) survived
      → Holds x survived keys values journal → surviving survived journal ≡ drop (lost x survived) (meaning_of x).records
  survived_records survived cut keys values journal w k =
      let used = x.head.journal.used in
      let l : survived / record_size * record_size ≤ survived = w.there in
      let e : used - lost x survived ≡ survived / record_size = omega (arith, cut.early) in
      newest_held (survived / record_size) survived journal x.journal l w.within (omega (arith, cut.early, m.shaped.used)) k.journal_held
      ∙ sym (drop_records (lost x survived) used x.journal ∙ ap (λ (n : ℕ). records_in n x.journal) e)

  -- a restart
  module _ (survived : ℕ) (cut : Cut x since survived) (keys values journal : List ℕ) (spelled : Bytes journal)
      (h : is_recoverable x.head keys (length values) (length journal) survived ≡ true → Holds x survived keys values journal) where
    abbrev left : List Record
    left = surviving survived journal

    -- the cells that it leaves
    abbrev restored : Cells
    restored = record { head = recovered_head x.head left; keys = keys; values = values; journal = compacted (survivors left) survived journal }

    restored_meaning : Recoverable (length journal) survived → Holds x survived keys values journal
        → meaning_of restored ≡ recovered (lose (lost x survived) (meaning_of x))
    restored_meaning w k =
        let e = survived_records survived cut keys values journal w k in
        rw (k.keys_held, k.values_held, recover_meaning x.head keys values journal survived spelled, e)

    recover_accepted : (recover_reply x.head keys values journal survived).number ≡ 0 → Meant room (restarted (lost x survived) ds) 0 restored
    recover_accepted e =
        let b : is_recoverable x.head keys (length values) (length journal) survived ≡ true =
        split (is_recoverable x.head keys (length values) (length journal) survived)
        (λ b. b)
        (λ b. let z : ◌≡◌ {A = ℕ} 1 0 = rw b at e in absurd (omega arith))
        in
        let w = recoverable x.head keys (length values) (length journal) survived b in
        let l : lost x survived ≤ since = omega (arith, cut.late) in
        let q = restored_meaning w (h b) in
        let tied = tied_restart (course_of ds since x) m.tie (lost x survived) l in
        let z = subst (λ (t : Store). Tied (record { store = t; deeds = restarted (lost x survived) ds; since = 0 })) (sym q) tied in
        let some : next x.head.floor left ≡ 0 → ⊥ = λ i. let f = z.floored in omega arith in
        let p = paired x.head keys (length values) (length journal) survived b in
        record {
          tie = z;
          shaped = recover_shaped x.head keys values journal survived m.shaped.rows_limit p.0 p.1 w some;
          steady =
              λ bytes all.
              subst (Roomy (room_of bytes)) (sym q) (room_restart (room_of bytes) (course_of ds since x) m.tie (m.steady bytes all) (lost x survived));
        }

    pub meant_recovered : (used : ℕ) (a : Reply) (head : Head) (journal' : List ℕ) → Recovered (counting used x.head) keys values journal survived a head journal'
        → Meant room (after a.number (restarted (lost x survived) ds) ds) (after a.number 0 since)
        (after a.number (record { head = head; keys = keys; values = values; journal = journal' }) x)
    meant_recovered used a head journal' w =
        let told : a.number ≡ (recover_reply x.head keys values journal survived).number = ap (λ (r : Reply). r.number) w.reply in
        split (eqb a.number 0)
        (λ e.
        let q : (recover_reply x.head keys values journal survived).number ≡ 0 = sym told ∙ eqb-true a.number 0 e in
        let f : head ≡ restored.head = w.headed ∙ ap (λ (n : ℕ). after n restored.head (counting used x.head)) q in
        let g : journal' ≡ restored.journal = w.cells ∙ ap (λ (n : ℕ). after n restored.journal journal) q in
        rw (e, f, g) (recover_accepted q))
        (λ e. rw e m)

-- every store that calls reach
pub meant : {room : ℕ → Type 0} {ds : List Deed} {since : ℕ} {x : Cells} → Reached room ds since x → Meant room ds since x
meant cells.start =
    record {
      tie = tied_start;
      shaped =
          record { rows_limit = omega arith; rows = omega arith; paired = refl; used_limit = omega arith; used = omega arith; floored = λ e. omega arith };
      steady = λ bytes all. omega arith;
    }
meant (cells.called r c z keys values journal l h a head journal' w) = meant_called (meant r) c z keys values journal l h a head journal' w
meant (cells.checkpointed r T small keys values journal bytes h a head keys' values' journal' w) =
    meant_checkpointed (meant r) T small keys values journal bytes h a head keys' values' journal' w
meant (cells.recovered r survived cut keys values journal bytes h used a head journal' w) =
    meant_recovered (meant r) survived cut keys values journal bytes h used a head journal' w
