-- How a call's parts make its contract: what was decided on the meaning, then done to the cells if it was accepted. Assumes nothing.
use Rattle.std.specs.Prelude.{◌≡◌, refl, Bool, true, false, cond, List, ◌++◌, ℕ, ◌+◌, ◌*◌, ◌≤◌, ◌<◌, eqb, length, drop, Some, None, Option}
use Rattle.std.proofs.Common.{sym, ap, ◌∙◌, arith, le-leb, eqb-true}
use Rattle.std.proofs.lemmas.Bool.{lt-leb}
use Rattle.rules.specs.declared.Record.{Record}
use Rattle.rules.specs.Bools.{split}
use Rattle.rules.specs.Kinds.{record_size}
use Rattle.rules.specs.Passed.{fitting}
use Rattle.rules.specs.Calls.{Store, Call, Begin, Update, Abort, Commit, refusal, need, answer, record_of, gives, list_of, list_answer, with_room, checkpoint_refusal, checkpoint_answer, kept_of}
use Rattle.rules.specs.Lists.{row_keys}
use Rattle.rules.specs.Columns.{row_values, Filled}
use Rattle.rules.specs.Recovery.{walk, survivors}
use Rattle.record.specs.Bytes.{appended}
use Rattle.record.specs.Laws.{length_records}
use Rattle.answer.specs.declared.Refusal.TheVariants.{BadShape, NoRoom}
use Rattle.answer.specs.Reply.{Reply, refused, told, accepted, number_of, place_of}
use Rattle.answer.specs.Laws.{after_refused, refused_some}
use Rattle.answer.specs.declared.Refusal.{Refusal}
use Rattle.compact.specs.Compact.{compacted}
use Rattle.journal_store.specs.declared.Head.{Head}
use Rattle.journal_store.specs.Shape.{is_shaped, room_of, meaning, row_room}
use Rattle.journal_store.specs.Heads.{grown, checkpoint_head, recovered_head}
use Rattle.journal_store.specs.CallContracts.{Put, Decided, number, Told, Wrote, shaped_reply, list_decided, is_list_shaped, list_number, ListedBy, ListedOf, checkpoint_number, Checkpointed, is_recoverable, surviving, recover_reply, Recovered}

-- an accepted call has the room that it needs
pub room_left : (room : ℕ) (c : Call) (s : Store) → answer room c s ≡ 0 → length s.records + need c s ≤ room
room_left room c s h = (fitting (refusal c s) (length s.records + need c s) room h).1

pub need_some : (c : Call) (s : Store) → 1 ≤ need c s
need_some (Begin t) s = omega arith
need_some (Update n k e) s = omega arith
need_some (Abort n) s = omega arith
need_some (Commit n t) s = omega arith

-- an accepted call has room for its record
pub has_room : {c : Call} {room used : ℕ} {s : Store} {a : Reply} {accepted : Bool} → Decided c room s a → accepted ≡ eqb a.number 0
    → length s.records ≡ used → accepted ≡ true → used + 1 ≤ room
has_room {c} {room} {used} {s} {a} d y u e =
    let z : answer room c s ≡ 0 = eqb-true (answer room c s) 0 (sym (ap (λ (r : Reply). eqb r.number 0) d.reply) ∙ sym y ∙ e) in
    omega (arith, room_left room c s z, need_some c s)

-- the number of a call, by the shape test
counted : (c : Call) (h : Head) (keys values j : List ℕ) (b : Bool) → is_shaped h (length keys) (length values) (length j) ≡ b
    → number c h keys values j ≡ cond b (answer (room_of (length j)) c (meaning h keys values j)) 1
counted c h keys values j b e = ap (λ (x : Bool). cond x (answer (room_of (length j)) c (meaning h keys values j)) 1) e

module _ {c : Call} {h : Head} {keys values j : List ℕ} where
  -- what is told of a store of bad shape
  pub told_bad : is_shaped h (length keys) (length values) (length j) ≡ false → Told c h keys values j (refused BadShape)
  told_bad e = record { reply = sym (ap (λ (n : ℕ). told n (gives c (meaning h keys values j))) (counted c h keys values j false e)) }

  module _ {a : Reply} where
    -- and of one of good shape
    pub told_good : is_shaped h (length keys) (length values) (length j) ≡ true → Decided c (room_of (length j)) (meaning h keys values j) a → Told c h keys values j a
    told_good e d =
        record { reply = d.reply ∙ ap (λ (n : ℕ). told n (gives c (meaning h keys values j))) (sym (counted c h keys values j true e)) }

    module _ (w : Told c h keys values j a) where
      told_number : a.number ≡ number c h keys values j
      told_number = ap (λ (r : Reply). r.number) w.reply

      -- the same of a store that a call is lent
      pub told_room : a.number ≡ 0 → h.journal.used + 1 ≤ room_of (length j)
      told_room z =
          split (is_shaped h (length keys) (length values) (length j))
          (λ e.
          let d : Decided c (room_of (length j)) (meaning h keys values j) a =
          record { reply = w.reply ∙ ap (λ (n : ℕ). told n (gives c (meaning h keys values j))) (counted c h keys values j true e) } in
          has_room d refl (length_records h.journal.used j) (ap (λ (n : ℕ). eqb n 0) z))
          (λ e. let q : ◌≡◌ {A = ℕ} 1 0 = sym (counted c h keys values j false e) ∙ sym told_number ∙ z in absurd (omega (arith, q)))

      -- what it gives
      pub given : a.number ≡ 0 → a.value ≡ gives c (meaning h keys values j)
      given z = ap (λ (r : Reply). r.value) w.reply ∙ ap (λ (n : ℕ). cond (eqb n 0) (gives c (meaning h keys values j)) None) (sym told_number ∙ z)

      -- a refused call changes nothing
      pub unwritten : eqb a.number 0 ≡ false → Wrote c h keys values j a h j
      unwritten z =
          let e : eqb (number c h keys values j) 0 ≡ false = ap (λ (n : ℕ). eqb n 0) (sym told_number) ∙ z in
          record { reply = w.reply; headed = rw e; cells = rw e }

      -- an accepted one writes its record
      pub written : a.number ≡ 0 → {head : Head} {exit : List ℕ} → head ≡ grown h
          → exit ≡ appended j h.journal.used (record_of c (meaning h keys values j)) → Wrote c h keys values j a head exit
      written z p q =
          let e : number c h keys values j ≡ 0 = sym told_number ∙ z in
          record { reply = w.reply; headed = rw e p; cells = rw e q }

  -- a store of bad shape: refused, and nothing changes
  pub bad_shape : is_shaped h (length keys) (length values) (length j) ≡ false → Wrote c h keys values j (refused BadShape) h j
  bad_shape e = unwritten (told_bad e) refl

  -- what was decided and put is what the call writes
  module _ {a : Reply} {accepted : Bool} {r : Record} {head : Head} {exit : List ℕ} where
    pub wrote : is_shaped h (length keys) (length values) (length j) ≡ true → Decided c (room_of (length j)) (meaning h keys values j) a
        → accepted ≡ eqb a.number 0 → (accepted ≡ true → r ≡ record_of c (meaning h keys values j)) → Put h j accepted r head exit
        → Wrote c h keys values j a head exit
    wrote shaped d y rec p =
        let w = told_good shaped d in
        split accepted
        (λ e. written w (eqb-true a.number 0 (sym y ∙ e)) (rw e at p.headed) (rw (e, rec e) at p.cells))
        (λ e.
        let q : head ≡ h = rw e at p.headed in
        let x : exit ≡ j = rw e at p.cells in
        rw (q, x) (unwritten w (sym y ∙ e)))

-- what a store of good shape answers
pub reply_good : (h : Head) (keys values j : List ℕ) (decided : Store → Reply) (r : Reply) → is_shaped h (length keys) (length values) (length j) ≡ true
    → r ≡ decided (meaning h keys values j) → r ≡ shaped_reply h keys values j decided
reply_good h keys values j decided r e d = rw e d

module _ (h : Head) (keys values j : List ℕ) (t : ℕ) (listed contents : List ℕ) where
  -- a bad shape: refused, and nothing changes
  pub list_bad : is_list_shaped h (length keys) (length values) (length j) (length listed) (length contents) ≡ false
      → ListedBy h keys values j t listed contents (refused BadShape) listed contents
  list_bad e =
      let s = meaning h keys values j in
      let q : list_number h keys values j t (length listed) (length contents) ≡ 1 = ap (λ (b : Bool). cond b (list_answer (length listed) t s) 1) e in
      record {
        reply = sym (ap (λ (n : ℕ). told n (Some (length (list_of t s)))) q);
        keys_column = after_refused BadShape (list_number h keys values j t (length listed) (length contents)) (row_keys (list_of t s) ++ drop (length (list_of t s)) listed) listed q;
        values_column = after_refused BadShape (list_number h keys values j t (length listed) (length contents)) (row_values (list_of t s) ++ drop (length (list_of t s)) contents) contents q;
      }

  -- what is answered of the meaning is what the call answers
  pub listed_by : is_list_shaped h (length keys) (length values) (length j) (length listed) (length contents) ≡ true → (a : Reply) (listed' contents' : List ℕ)
      → ListedOf (meaning h keys values j) t listed contents a listed' contents' → ListedBy h keys values j t listed contents a listed' contents'
  listed_by e a listed' contents' w =
      let s = meaning h keys values j in
      let n : list_number h keys values j t (length listed) (length contents) ≡ list_answer (length listed) t s =
      ap (λ (b : Bool). cond b (list_answer (length listed) t s) 1) e in
      let m : a.number ≡ list_answer (length listed) t s = ap (λ (r : Reply). r.number) w.reply in
      record {
        reply = rw n w.reply;
        keys_column = rw (n, ← m) w.keys_column;
        values_column = rw (n, ← m) w.values_column;
      }

  -- the same of any reply that was decided, by its number
  module _ (shaped : is_list_shaped h (length keys) (length values) (length j) (length listed) (length contents) ≡ true) (a : Reply)
      (d : a ≡ list_decided (length listed) t (meaning h keys values j)) where
    pub list_filled : (listed' contents' : List ℕ) → eqb a.number 0 ≡ true → Filled (list_of t (meaning h keys values j)) listed contents listed' contents'
        → ListedBy h keys values j t listed contents a listed' contents'
    list_filled listed' contents' e f =
        listed_by shaped a listed' contents' (record { reply = d; keys_column = rw e f.keys_column; values_column = rw e f.values_column })

    pub list_refused : eqb a.number 0 ≡ false → ListedBy h keys values j t listed contents a listed contents
    list_refused e = listed_by shaped a listed contents (record { reply = d; keys_column = rw e; values_column = rw e })

module _ {s : Store} {t : ℕ} {listed contents : List ℕ} where
  -- a refused list leaves the columns as they were
  pub listed_refused : (x : Refusal) → refused x ≡ list_decided (length listed) t s → ListedOf s t listed contents (refused x) listed contents
  listed_refused x e = record { reply = e; keys_column = after_refused x _ _ listed refl; values_column = after_refused x _ _ contents refl }

  -- an accepted one has its rows at their front
  pub listed_filled : (n : ℕ) {listed' contents' : List ℕ} → accepted (Some n) ≡ list_decided (length listed) t s
      → Filled (list_of t s) listed contents listed' contents' → ListedOf s t listed contents (accepted (Some n)) listed' contents'
  listed_filled n e f = record { reply = e; keys_column = f.keys_column; values_column = f.values_column }

module _ (t : ℕ) (h : Head) (keys values j : List ℕ) where
  -- a call that gets a refusal's number changes nothing
  unchanged : (x : Refusal) → place_of x ≡ None → checkpoint_number t h keys values j ≡ number_of x
      → Checkpointed t h keys values j (refused x) h keys values j
  unchanged x p q =
      let s = meaning h keys values j in
      let n = checkpoint_number t h keys values j in
      record {
        reply = rw (q, p, refused_some x);
        headed = after_refused x n (checkpoint_head t s) h q;
        keys_column = after_refused x n (row_keys (list_of t s) ++ drop (length (list_of t s)) keys) keys q;
        values_column = after_refused x n (row_values (list_of t s) ++ drop (length (list_of t s)) values) values q;
        cells = after_refused x n (compacted (kept_of t s) (h.journal.used * record_size) j) j q;
      }

  -- a store of bad shape
  pub checkpoint_bad : is_shaped h (length keys) (length values) (length j) ≡ false
      → Checkpointed t h keys values j (refused BadShape) h keys values j
  checkpoint_bad e =
      unchanged BadShape refl (ap (λ (b : Bool). cond b (checkpoint_answer (row_room (length keys)) t (meaning h keys values j)) 1) e)

  module _ (shaped : is_shaped h (length keys) (length values) (length j) ≡ true) (a : Reply)
      (d : a ≡ told (checkpoint_refusal t (meaning h keys values j)) None) where
    turned : checkpoint_refusal t (meaning h keys values j) ≡ a.number
    turned = sym (ap (λ (r : Reply). r.number) d)

    answered : checkpoint_number t h keys values j ≡ with_room a.number (length (list_of t (meaning h keys values j))) (row_room (length keys))
    answered =
        ap (λ (b : Bool). cond b (checkpoint_answer (row_room (length keys)) t (meaning h keys values j)) 1) shaped
        ∙ ap (λ (n : ℕ). with_room n (length (list_of t (meaning h keys values j))) (row_room (length keys))) turned

    -- a test before the room refused
    pub checkpoint_refused : eqb a.number 0 ≡ false → Checkpointed t h keys values j a h keys values j
    checkpoint_refused e =
        let q : checkpoint_number t h keys values j ≡ a.number = rw e at answered in
        let z : eqb (checkpoint_number t h keys values j) 0 ≡ false = rw q e in
        record {
          reply = d ∙ ap (λ (n : ℕ). told n None) (turned ∙ sym q);
          headed = rw z;
          keys_column = rw z;
          values_column = rw z;
          cells = rw z;
        }

    -- none did, and the list has n rows
    module _ (e : eqb a.number 0 ≡ true) (n : ℕ) (q : n ≡ length (list_of t (meaning h keys values j))) where
      pub checkpoint_full : row_room (length keys) < n → Checkpointed t h keys values j (refused NoRoom) h keys values j
      checkpoint_full l = unchanged NoRoom refl (answered ∙ rw (e, ← q, lt-leb n (row_room (length keys)) l))

      pub checkpoint_written : (head : Head) (keys' values' exit : List ℕ) → n ≤ row_room (length keys)
          → head ≡ checkpoint_head t (meaning h keys values j) → Filled (list_of t (meaning h keys values j)) keys values keys' values'
          → exit ≡ compacted (kept_of t (meaning h keys values j)) (h.journal.used * record_size) j
          → Checkpointed t h keys values j (accepted None) head keys' values' exit
      checkpoint_written head keys' values' exit l f g i =
          let z : checkpoint_number t h keys values j ≡ 0 = answered ∙ rw (e, ← q, le-leb n (row_room (length keys)) l) in
          record { reply = rw z; headed = rw z f; keys_column = rw z g.keys_column; values_column = rw z g.values_column; cells = rw z i }

module _ (h : Head) (keys values j : List ℕ) (survived : ℕ) where
  -- refused with a number other than 0: nothing changes
  left : (a : Reply) → recover_reply h keys values j survived ≡ a → eqb a.number 0 ≡ false → Recovered h keys values j survived a h j
  left a e f =
      let z : eqb (recover_reply h keys values j survived).number 0 ≡ false = ap (λ (r : Reply). eqb r.number 0) e ∙ f in
      record { reply = sym e; headed = rw z; cells = rw z }

  pub recover_bad : is_recoverable h keys (length values) (length j) survived ≡ false → Recovered h keys values j survived (refused BadShape) h j
  recover_bad e = left (refused BadShape) (rw e) refl

  module _ (e : is_recoverable h keys (length values) (length j) survived ≡ true) (w : Option ℕ) (d : w ≡ walk h.low (surviving survived j)) where
    pub recover_refused : (i : ℕ) → w ≡ Some i → Recovered h keys values j survived (record { number = 13; value = Some i }) h j
    recover_refused i f = left (record { number = 13; value = Some i }) (rw (e, sym d ∙ f)) refl

    pub recover_done : (head : Head) (exit : List ℕ) → w ≡ None → head ≡ recovered_head h (surviving survived j)
        → exit ≡ compacted (survivors (surviving survived j)) survived j → Recovered h keys values j survived (accepted None) head exit
    recover_done head exit f g i =
        let q : recover_reply h keys values j survived ≡ accepted None = rw (e, sym d ∙ f) in
        let z : eqb (recover_reply h keys values j survived).number 0 ≡ true = ap (λ (r : Reply). eqb r.number 0) q in
        record { reply = sym q; headed = rw z g; cells = rw z i }
