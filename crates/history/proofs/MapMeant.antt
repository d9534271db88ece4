-- The one induction over a map store's sequences: its accepted deeds are lawful, its columns mean what the rules make of them, and their shape is good.
-- Assumes nothing.
use Rattle.std.specs.Prelude.{◌≡◌, refl, true, not, ◌&&◌, List, ◌∷◌, ℕ, ◌<◌, ◌≤◌, eqb, leb, length, take}
use Rattle.std.proofs.Common.{ap, sym, ◌∙◌, arith, get_or-take, eqb-true, leb-true}
use Rattle.rules.specs.Limits.{most_versions}
use Rattle.rules.specs.Bools.{split, and_left, and_right}
use Rattle.rules.specs.Passed.{fitting}
use Rattle.rules.specs.Calls.{Begin, Update, Abort, Commit}
use Rattle.answer.specs.Reply.{Reply, after}
use Rattle.slot.specs.Slots.{slots_shaped}
use Rattle.versions.specs.Versions.{Columns, no_columns, version_at}
use Rattle.versions.specs.Columns.{front}
use Rattle.versions.specs.Laws.{same_rows, each_row, none_lent}
use Rattle.map_store.specs.declared.MapHead.{MapHead}
use Rattle.map_store.specs.Meaning.{MapStore, map_refusal, map_answer, map_after}
use Rattle.map_store.specs.Shape.{Lengths, lengths, is_shaped, Shaped, room_of, meaning}
use Rattle.map_store.specs.CallContracts.{shaped_number, number}
use Rattle.map_store.specs.Laws.{number_bad, number_good}
use Rattle.map_store.specs.ShapeLaws.{shape_passes, empty_shaped}
use Rattle.map_store.specs.MeaningLaws.{empty_meaning, begin_meaning, begin_shaped, update_meaning, update_shaped, abort_meaning, abort_shaped, commit_meaning, commit_shaped, checkpoint_meaning, checkpoint_shaped}
use Rattle.history.specs.History.{Deed, Did, Checkpointed}
use Rattle.history.specs.Lawful.{Lawful, start, went}
use Rattle.history.proofs.MapMeanings.{map_refuses}
use Rattle.history.proofs.Maps.{map_refused, mapped}
use Rattle.history.specs.MapCells.{MapCells, map_meaning_of, MapHolds, MapLent, Does, begins, updates, aborts, commits, checkpoints, MapReached, map_start, did}
use Rattle.map_store.specs.Meaning as map

-- the deeds are lawful, and the cells mean what the rules make of them
pub record MapMeant (ds : List Deed) (x : MapCells) : Type 0 where
  pub lawful : Lawful ds
  pub means : map_meaning_of x ≡ mapped ds
  pub shaped : Shaped x.head (lengths x.columns)

-- a row is read from the first rows
row_held : (n : ℕ) (a b : Columns) → front n a ≡ front n b → (i : ℕ) → i < n → version_at i a ≡ version_at i b
row_held n a b e i l =
    let first : (cs : Columns) → version_at i (front n cs) ≡ version_at i cs =
    λ cs. each_row (none_lent cs) (λ field cells. take n cells) i (λ field cells _. get_or-take n cells i 0 l) in
    sym (first a) ∙ ap (version_at i) e ∙ first b

module _ (x : MapCells) (w : Shaped x.head (lengths x.columns)) (cs : Columns) (l : MapLent x cs) where
  pub map_lent_shaped : Shaped x.head (lengths cs)
  map_lent_shaped =
      record {
        limit = w.limit;
        rows = l.rows;
        times = l.times_paired;
        values = l.values_paired;
        marks = l.marks_paired;
        numbered = w.numbered;
        formed = w.formed;
      }

  pub map_lent_passes : is_shaped x.head (lengths cs) ≡ true
  map_lent_passes = shape_passes x.head (lengths cs) map_lent_shaped

  pub map_lent_meaning : meaning x.head cs ≡ map_meaning_of x
  map_lent_meaning =
      let n = x.head.used in
      rw (same_rows n cs x.columns (row_held n cs x.columns l.held))

-- the number that a deed gets where so many rows are lent
abbrev answer_to : Deed → ℕ → MapStore → ℕ
answer_to (Did c) room m = map_answer room c m
answer_to (Checkpointed T) room m = map.checkpoint_refusal T m

pub does_number : {d : Deed} {h : MapHead} {cs : Columns} (a : Reply) (head : MapHead) {cs' : Columns} → Does h cs a head d cs'
    → a.number ≡ shaped_number h cs (answer_to d (room_of (length cs.keys)))
does_number a head (begins t w) = ap (λ (r : Reply). r.number) w.reply
does_number a head (updates n k u w) = ap (λ (r : Reply). r.number) w.reply
does_number a head (aborts n w) = ap (λ (r : Reply). r.number) w.reply
does_number a head (commits n t cs' w) = ap (λ (r : Reply). r.number) w.answered.reply
does_number a head (checkpoints T cs' w) = ap (λ (r : Reply). r.number) w.reply

-- an accepted deed is one that the rules do not refuse
accepted_deed : (room : ℕ) (d : Deed) (m : MapStore) → answer_to d room m ≡ 0 → map_refused d m ≡ 0
accepted_deed room (Did (Begin t)) m e = e
accepted_deed room (Did (Update n k u)) m e = e
accepted_deed room (Did (Abort n)) m e = e
accepted_deed room (Did (Commit n t)) m e = (fitting (map_refusal (Commit n t) m) _ room e).0
accepted_deed room (Checkpointed T) m e = e

-- a good shape has paired columns with the used rows
record Paired (h : MapHead) (l : Lengths) : Type 0 where
  rows : h.used ≤ l.keys
  times : l.keys ≡ l.times
  values : l.keys ≡ l.values
  marks : l.keys ≡ l.marks

paired : (h : MapHead) (l : Lengths) → is_shaped h l ≡ true → Paired h l
paired h l e =
    let rest = not (eqb h.next 0) && slots_shaped h.slots in
    let third = eqb l.keys l.marks && rest in
    let second = eqb l.keys l.values && third in
    let first = eqb l.keys l.times && second in
    let f = and_right (leb h.used most_versions) (leb h.used l.keys && first) e in
    let g = and_right (leb h.used l.keys) first f in
    let i = and_right (eqb l.keys l.times) second g in
    let j = and_right (eqb l.keys l.values) third i in
    record {
      rows = leb-true _ _ (and_left (leb h.used l.keys) first f);
      times = eqb-true _ _ (and_left (eqb l.keys l.times) second g);
      values = eqb-true _ _ (and_left (eqb l.keys l.values) third i);
      marks = eqb-true _ _ (and_left (eqb l.keys l.marks) rest j);
    }

-- a number 0 was given to a good shape
shape_accepted : (h : MapHead) (cs : Columns) (f : MapStore → ℕ) → shaped_number h cs f ≡ 0 → is_shaped h (lengths cs) ≡ true
shape_accepted h cs f e =
    split (is_shaped h (lengths cs))
    (λ b. b)
    (λ b. let z : ◌≡◌ {A = ℕ} 1 0 = sym (number_bad h cs f b) ∙ e in absurd (omega arith))

-- what is left of a refused or accepted call where its number is 0
is_new : {A : Type 0} (n : ℕ) (new old y : A) → y ≡ after n new old → n ≡ 0 → y ≡ new
is_new n new old y p z = p ∙ ap (λ (i : ℕ). after i new old) z

module _ {ds : List Deed} {x : MapCells} (m : MapMeant ds x) (cs : Columns)
    (h : is_shaped x.head (lengths cs) ≡ true → MapHolds x cs) (d : Deed)
    (z : shaped_number x.head cs (answer_to d (room_of (length cs.keys))) ≡ 0) where
  lent : MapLent x cs
  lent =
      let b = shape_accepted x.head cs (answer_to d (room_of (length cs.keys))) z in
      let p = paired x.head (lengths cs) b in
      record { rows = p.rows; times_paired = p.times; values_paired = p.values; marks_paired = p.marks; held = h b }

  good : Shaped x.head (lengths cs)
  good = map_lent_shaped x m.shaped cs lent

  before : meaning x.head cs ≡ mapped ds
  before = map_lent_meaning x m.shaped cs lent ∙ m.means

  -- the number on what the cells mean
  on_meaning : answer_to d (room_of (length cs.keys)) (meaning x.head cs) ≡ 0
  on_meaning = sym (number_good x.head cs (answer_to d (room_of (length cs.keys))) (map_lent_passes x m.shaped cs lent)) ∙ z

  more_lawful : Lawful (d ∷ ds)
  more_lawful =
      went m.lawful (sym (map_refuses m.lawful d) ∙ sym (ap (map_refused d) before) ∙ accepted_deed (room_of (length cs.keys)) d (meaning x.head cs) on_meaning)

meant_does : {ds : List Deed} {x : MapCells} (m : MapMeant ds x) (cs : Columns)
    (h : is_shaped x.head (lengths cs) ≡ true → MapHolds x cs) (d : Deed) (a : Reply) (head : MapHead) {cs' : Columns}
    → Does x.head cs a head d cs' → shaped_number x.head cs (answer_to d (room_of (length cs.keys))) ≡ 0
    → MapMeant (d ∷ ds) (record { head = head; columns = cs' })
meant_does {ds} {x} m cs h d a head (begins t w) z =
    rw (is_new (number (Begin t) x.head cs) _ x.head head w.headed z)
    (record {
      lawful = more_lawful m cs h d z;
      means = begin_meaning x.head cs (good m cs h d z) t ∙ ap (map_after (Begin t)) (before m cs h d z);
      shaped = begin_shaped x.head cs (good m cs h d z) t;
    })
meant_does {ds} {x} m cs h d a head (updates n k u w) z =
    rw (is_new (number (Update n k u) x.head cs) _ x.head head w.headed z)
    (record {
      lawful = more_lawful m cs h d z;
      means =
          update_meaning x.head cs (good m cs h d z) n k u (on_meaning m cs h d z) ∙ ap (map_after (Update n k u)) (before m cs h d z);
      shaped = update_shaped x.head cs (good m cs h d z) n k u;
    })
meant_does {ds} {x} m cs h d a head (aborts n w) z =
    rw (is_new (number (Abort n) x.head cs) _ x.head head w.headed z)
    (record {
      lawful = more_lawful m cs h d z;
      means = abort_meaning x.head cs (good m cs h d z) n (on_meaning m cs h d z) ∙ ap (map_after (Abort n)) (before m cs h d z);
      shaped = abort_shaped x.head cs (good m cs h d z) n;
    })
meant_does {ds} {x} m cs h d a head (commits n t cs' w) z =
    let number_is = number (Commit n t) x.head cs in
    rw (
      is_new number_is _ x.head head w.answered.headed z,
      is_new number_is _ cs cs' w.cells z,
    )
    (record {
      lawful = more_lawful m cs h d z;
      means = commit_meaning x.head cs (good m cs h d z) n t (on_meaning m cs h d z) ∙ ap (map_after (Commit n t)) (before m cs h d z);
      shaped = commit_shaped x.head cs (good m cs h d z) n t (on_meaning m cs h d z);
    })
meant_does {ds} {x} m cs h d a head (checkpoints T cs' w) z =
    let number_is = shaped_number x.head cs (map.checkpoint_refusal T) in
    rw (
      is_new number_is _ x.head head w.headed z,
      is_new number_is _ cs cs' w.cells z,
    )
    (record {
      lawful = more_lawful m cs h d z;
      means = checkpoint_meaning x.head cs (good m cs h d z) T ∙ ap (map.checkpointed T) (before m cs h d z);
      shaped = checkpoint_shaped x.head cs (good m cs h d z) T;
    })

-- every map store that calls reach
pub map_meant : {ds : List Deed} {x : MapCells} → MapReached ds x → MapMeant ds x
map_meant map_start = record { lawful = start; means = empty_meaning no_columns; shaped = empty_shaped 0 }
map_meant (did r d cs h a head cs' w) =
    split (eqb a.number 0)
    (λ e. rw e (meant_does (map_meant r) cs h d a head w (sym (does_number a head w) ∙ eqb-true a.number 0 e)))
    (λ e. rw e (map_meant r))

-- the store's own columns, lent as they are
pub map_own : {ds : List Deed} {x : MapCells} → MapReached ds x → MapLent x x.columns
map_own r =
    let s = (map_meant r).shaped in
    record { rows = s.rows; times_paired = s.times; values_paired = s.values; marks_paired = s.marks; held = refl }
