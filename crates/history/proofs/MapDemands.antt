-- The demands on the map store by itself, over any sequence of its calls and checkpoints from an empty store, with whatever room is lent to each, refused
-- calls included (MapCells): it answers as the history of its accepted calls does. So a journal store that accepted the same calls answers alike, number
-- for number and row for row. Assumes nothing.
use Rattle.std.specs.Prelude.{◌≡◌, refl, Bool, true, false, cond, not, List, ◌∷◌, ◌≢◌, ℕ, ◌+◌, ◌≤◌, eqb, leb, length, Some, None}
use Rattle.std.proofs.Common.{ap, sym, ◌∙◌, subst, arith, eqb-true, eq-eqb}
use Rattle.std.proofs.lemmas.Bool.{not-false, eqb-false}
use Rattle.rules.specs.Bools.{split}
use Rattle.rules.specs.Lists.{among}
use Rattle.rules.specs.Passed.{passed, fitting}
use Rattle.rules.specs.Calls.{Call, Begin, Update, Abort, Commit, with_room}
use Rattle.answer.specs.Reply.{Reply, accepted, told, after}
use Rattle.slot.specs.Places.{Place, free, taken, place_of}
use Rattle.versions.specs.Versions.{Columns}
use Rattle.versions.specs.Laws.{length_versions}
use Rattle.journal_store.specs.declared.Head.{Head}
use Rattle.journal_store.specs.Shape.{room_of, row_room}
use Rattle.journal_store.specs.CallContracts.{Wrote, read_decided, lookup_decided, shaped_reply, ListedBy}
use Rattle.map_store.specs.declared.MapHead.{MapHead}
use Rattle.map_store.specs.Meaning.{MapStore, map_answer, abort_refusal, place_refusal, rows_at}
use Rattle.map_store.specs.CallContracts.{shaped_number, read_reply, lookup_reply, ListedAt}
use Rattle.map_store.specs.Laws.{number_good}
use Rattle.history.specs.History.{History, Deed, Did, Checkpointed, numbers, changes_of, history, value_in, reads, list_in}
use Rattle.history.specs.Refusals.{distinct_keys, last_in, time_refused, unknown_or, refusal_in, gives_in, need_in, deed_gives, map_number_in, lookup_number, read_number}
use Rattle.history.specs.Lawful.{Lawful, start, went}
use Rattle.history.proofs.Maps.{mapped}
use Rattle.history.proofs.MapMeanings.{map_gives, map_refuses, map_times, map_value, map_list, map_reads, map_rows}
use Rattle.history.specs.Cells.{Cells, end, Lent, Shows, Registers, Reached}
use Rattle.history.proofs.Rows.{shown_registers}
use Rattle.history.proofs.Lent.{told_same, shows_same, shows_alike}
use Rattle.history.proofs.Demands.{accepted_is_lawful, room_same, in_time, list_answers, looks_up_the_history, reads_the_history, calls_answer, checkpoint_answers}
use Rattle.history.specs.MapCells.{MapCells, MapLent, Does, begins, updates, aborts, commits, checkpoints, MapReached, map_start, did, Given, nothing_given, given}
use Rattle.history.proofs.MapMeant.{map_meant, map_lent_passes, map_lent_meaning}
use Rattle.versions.specs.Versions as versions
use Rattle.map_store.specs.Meaning as map
use Rattle.journal_store.specs.CallContracts as checkpoint
use Rattle.map_store.specs.CallContracts as contract
use Rattle.map_store.specs.Shape as shape

-- a place is free exactly where an abort finds none
read_as_abort : (k : ℕ) (p : Place) → place_refusal k p ≡ cond (eqb (abort_refusal p) 0) (cond (eqb k 0) 3 0) 2
read_as_abort k free = refl
read_as_abort k (taken n s rows) = refl

unknown_first : (b : Bool) (others : ℕ) → cond (eqb (cond (not b) 2 0) 0) others 2 ≡ cond (not b) 2 others
unknown_first true others = refl
unknown_first false others = refl

-- What was accepted is what the history does not refuse.
pub map_accepted_is_lawful : {ds : List Deed} {m : MapCells} → MapReached ds m → Lawful ds
map_accepted_is_lawful r = (map_meant r).lawful

module _ {ds : List Deed} {m : MapCells} (r : MapReached ds m) (cs : Columns) (l : MapLent m cs) where
  ok : Lawful ds
  ok = map_accepted_is_lawful r

  means : shape.meaning m.head cs ≡ mapped ds
  means = let w = map_meant r in map_lent_meaning m w.shaped cs l ∙ w.means

  passes : (f : MapStore → ℕ) → shaped_number m.head cs f ≡ f (mapped ds)
  passes f = number_good m.head cs f (map_lent_passes m (map_meant r).shaped cs l) ∙ ap f means

  -- LISTS. Whatever the time and the lent rows: the number that the history gives, and where it is 0 exactly the history's list.
  pub map_list_answers : (t : ℕ) (listed contents : List ℕ) → length listed ≡ length contents → (a : Reply) (listed' contents' : List ℕ)
      → ListedAt t m.head cs listed contents a listed' contents'
      → Shows (list_in (history ds).commitments t)
      (with_room (time_refused t (history ds) 0) (length (list_in (history ds).commitments t)) (length listed)) listed contents a listed' contents'
  map_list_answers t listed contents p a listed' contents' w =
      let number_is = contract.list_number t m.head cs listed contents in
      let shown = versions.list_at (versions.versions_of m.head.used cs) t in
      let e : shown ≡ versions.list_at (mapped ds).versions t = ap (λ (s : MapStore). versions.list_at s.versions t) means in
      let n : number_is ≡ map.list_answer (length listed) t (mapped ds) = rw (eq-eqb (length listed) (length contents) p) (passes (map.list_answer (length listed) t)) in
      let q = room_same (map.list_refusal t (mapped ds)) (time_refused t (history ds) 0) (length (versions.list_at (mapped ds).versions t))
      (length (list_in (history ds).commitments t)) (length listed) (map_times ok t) (λ z. ap length (map_list ok t (sym (map_times ok t) ∙ z)))
      in
      shows_same shown (list_in (history ds).commitments t) number_is _ listed contents a listed' contents' (n ∙ q)
      (λ z. e ∙ map_list ok t (sym (map_times ok t) ∙ (fitting (map.list_refusal t (mapped ds)) _ (length listed) (sym n ∙ z)).0))
      (record { reply = w.reply; keys_column = w.keys; values_column = w.values })

  -- At every time from low to last a list with room enough is accepted, and gives exactly the history's list.
  pub map_lists : (t : ℕ) → (history ds).low ≤ t → t ≤ last_in (history ds) → (listed contents : List ℕ) → length listed ≡ length contents
      → length (list_in (history ds).commitments t) ≤ length listed → (a : Reply) (listed' contents' : List ℕ)
      → ListedAt t m.head cs listed contents a listed' contents'
      → Shows (list_in (history ds).commitments t) 0 listed contents a listed' contents'
  map_lists t old new listed contents p fits a listed' contents' w =
      shows_same (list_in (history ds).commitments t) (list_in (history ds).commitments t) _ 0 listed contents a listed' contents'
      (in_time t (history ds) (length (list_in (history ds).commitments t)) (length listed) old new fits) (λ z. refl)
      (map_list_answers t listed contents p a listed' contents' w)

  -- Demand 3, whole: a list with room enough has a count n, and exactly the history's registers in n rows.
  pub map_every_listing : (t : ℕ) → (history ds).low ≤ t → t ≤ last_in (history ds) → (listed contents : List ℕ) → length listed ≡ length contents
      → length (list_in (history ds).commitments t) ≤ length listed → (a : Reply) (listed' contents' : List ℕ)
      → ListedAt t m.head cs listed contents a listed' contents'
      → (n : ℕ) × (a ≡ accepted (Some n)) × Registers (history ds).commitments t n listed' contents'
  map_every_listing t old new listed contents p fits a listed' contents' w =
      shown_registers (history ds).commitments t listed contents p fits a listed' contents'
      (map_lists t old new listed contents p fits a listed' contents' w)

  -- VALUES. A lookup gives the number that the history gives, and where it is 0 the history's value.
  pub map_looks_up_the_history : (k t : ℕ) → lookup_reply k t m.head cs ≡ told (lookup_number k t (history ds)) (value_in (history ds).commitments t k)
  map_looks_up_the_history k t =
      let e = passes (map.lookup_refusal k t) ∙ ap (cond (eqb k 0) 3) (map_times ok t) in
      told_same (shaped_number m.head cs (map.lookup_refusal k t)) (lookup_number k t (history ds))
      (versions.value_at k t (versions.versions_of m.head.used cs)) (value_in (history ds).commitments t k) e
      (λ z.
      let y = passed (eqb k 0) 3 (time_refused t (history ds) 0) (omega arith) (sym e ∙ z) in
      let i = eqb-false k 0 y.0 in
      ap (λ (s : MapStore). versions.value_at k t s.versions) means ∙ map_value ok t k (omega arith) y.1)

  -- READS. A read in a running transaction gives the history's value at its snapshot, then its own changes in order.
  pub map_reads_the_history : (n k : ℕ) → read_reply n k m.head cs ≡ told (read_number n k (history ds)) (reads (history ds) n k)
  map_reads_the_history n k =
      let f : abort_refusal (place_of n (mapped ds).places) ≡ unknown_or n (history ds) 0 = map_refuses ok (Did (Abort n)) in
      let g' : place_refusal k (place_of n (mapped ds).places) ≡ read_number n k (history ds) =
      read_as_abort k (place_of n (mapped ds).places)
      ∙ ap (λ (i : ℕ). cond (eqb i 0) (cond (eqb k 0) 3 0) 2) f
      ∙ unknown_first (among n (numbers (history ds).runners)) (cond (eqb k 0) 3 0)
      in
      let e = passes (map.read_refusal n k) ∙ g' in
      told_same (shaped_number m.head cs (map.read_refusal n k)) (read_number n k (history ds)) (map.read_in n k (shape.meaning m.head cs))
      (reads (history ds) n k) e
      (λ z.
      let y = passed (not (among n (numbers (history ds).runners))) 2 (cond (eqb k 0) 3 0) (omega arith) (sym e ∙ z) in
      let v = passed (eqb k 0) 3 0 (omega arith) y.1 in
      let i = eqb-false k 0 v.0 in
      ap (map.read_in n k) means ∙ map_reads ok n k (not-false (among n (numbers (history ds).runners)) y.0) (omega arith))

  -- CALLS. Begin, update, abort and commit get the number of section 6 that the history gives, and an accepted begin the next number; a commit alone needs
  -- room, a row for each key that it changed. A checkpoint needs none.
  used : length (mapped ds).versions ≡ m.head.used
  used = sym (ap (λ (s : MapStore). length s.versions) means) ∙ length_versions m.head.used cs

  commit_number : (n t : ℕ) → map_answer (shape.room_of (length cs.keys)) (Commit n t) (mapped ds)
      ≡ map_number_in m.head.used (shape.room_of (length cs.keys)) (Did (Commit n t)) (history ds)
  commit_number n t =
      room_same (map.map_refusal (Commit n t) (mapped ds)) (refusal_in (Did (Commit n t)) (history ds)) (length (mapped ds).versions + length (rows_at (place_of n (mapped ds).places)))
      (m.head.used + length (distinct_keys (changes_of n (history ds).runners))) (shape.room_of (length cs.keys)) (map_refuses ok (Did (Commit n t)))
      (λ z.
      let y = passed (not (among n (numbers (history ds).runners))) 2 _ (omega arith) (sym (map_refuses ok (Did (Commit n t))) ∙ z) in
      rw (used, map_rows ok n (not-false (among n (numbers (history ds).runners)) y.0)))

  pub map_answers : {d : Deed} (a : Reply) (head : MapHead) {cs' : Columns} → Does m.head cs a head d cs'
      → a ≡ told (map_number_in m.head.used (shape.room_of (length cs.keys)) d (history ds)) (deed_gives d (history ds))
  map_answers a head (begins t w) =
      let room = shape.room_of (length cs.keys) in
      let given : map.gives (Begin t) (shape.meaning m.head cs) ≡ gives_in (Begin t) (history ds) = ap (map.gives (Begin t)) means ∙ map_gives ok (Begin t) in
      w.reply ∙ rw (passes (map_answer room (Begin t)), map_refuses ok (Did (Begin t)), given)
  map_answers a head (updates n k e w) =
      let room = shape.room_of (length cs.keys) in
      w.reply ∙ rw (passes (map_answer room (Update n k e)), map_refuses ok (Did (Update n k e)))
  map_answers a head (aborts n w) =
      let room = shape.room_of (length cs.keys) in
      w.reply ∙ rw (passes (map_answer room (Abort n)), map_refuses ok (Did (Abort n)))
  map_answers a head (commits n t cs' w) =
      let room = shape.room_of (length cs.keys) in
      w.answered.reply ∙ rw (passes (map_answer room (Commit n t)), commit_number n t)
  map_answers a head (checkpoints T cs' w) = w.reply ∙ rw (passes (map.checkpoint_refusal T), map_refuses ok (Checkpointed T))

-- a number that is not 12 is the number but for room
but_for_room : (n wanted room : ℕ) → with_room n wanted room ≢ 12 → with_room n wanted room ≡ n
but_for_room n wanted room h =
    split (eqb n 0)
    (λ e. split (leb wanted room) (λ y. rw (e, y) (sym (eqb-true n 0 e))) (λ y. absurd (h (rw (e, y)))))
    (λ e. rw e)

but_for_rows : (used room : ℕ) (d : Deed) (h : History) → map_number_in used room d h ≢ 12 → map_number_in used room d h ≡ refusal_in d h
but_for_rows used room (Did (Begin t)) h n = refl
but_for_rows used room (Did (Update i k e)) h n = refl
but_for_rows used room (Did (Abort i)) h n = refl
but_for_rows used room (Did (Commit i t)) h n = but_for_room (refusal_in (Did (Commit i t)) h) _ room n
but_for_rows used room (Checkpointed t) h n = refl

-- BOTH STORES. The map store, given the same calls: those that a journal store accepted and did not lose, with an abort for each transaction that a restart
-- ended there. It accepts each of them, unless it has no room.
module _ {ds : List Deed} {m : MapCells} (r : MapReached ds m) (cs : Columns) (l : MapLent m cs) where
  pub the_map_accepts : {d : Deed} → Lawful (d ∷ ds) → (a : Reply) (head : MapHead) {cs' : Columns} → Does m.head cs a head d cs'
      → a.number ≢ 12 → a ≡ told 0 (deed_gives d (history ds))
  the_map_accepts {d} (went ok e) a head w n =
      let p = map_answers r cs l a head w in
      let q = but_for_rows m.head.used (shape.room_of (length cs.keys)) d (history ds) (λ z. n (ap (λ (i : Reply). i.number) p ∙ z)) in
      p ∙ ap (λ (i : ℕ). told i (deed_gives d (history ds))) (q ∙ e)

-- So a map store that is given lawful deeds one after the other, and refuses none for room, has accepted them all.
given_reached : {ds : List Deed} {m : MapCells} → Lawful ds → Given ds m → MapReached ds m
given_reached start nothing_given = map_start
given_reached (went ok e) (given {ds = ds} {x = x} g d cs l a head cs' w n) =
    let r = given_reached ok g in
    subst (λ (i : ℕ). MapReached (after i (d ∷ ds) ds) (after i (record { head = head; columns = cs' }) x))
    (ap (λ (q : Reply). q.number) (the_map_accepts r cs l (went ok e) a head w n)) (did r d cs (λ shaped. l.held) a head cs' w)

-- And so with what a journal store accepted.
pub the_map_follows : {room : ℕ → Type 0} {ds : List Deed} {since : ℕ} {x : Cells} → Reached room ds since x → {m : MapCells} → Given ds m → MapReached ds m
the_map_follows j g = given_reached (accepted_is_lawful j) g

module _ {room : ℕ → Type 0} {ds : List Deed} {since : ℕ} {x : Cells} (j : Reached room ds since x) (keys values journal : List ℕ)
    (b : Lent x (end x) keys values journal) {m : MapCells} (r : MapReached ds m) (cs : Columns) (l : MapLent m cs) where
  -- They list the same: one answer, the same columns, at every time.
  pub stores_list_alike : (t : ℕ) (listed contents : List ℕ) → length listed ≡ length contents → (a a' : Reply) (listed₁ contents₁ listed₂ contents₂ : List ℕ)
      → ListedBy x.head keys values journal t listed contents a listed₁ contents₁
      → ListedAt t m.head cs listed contents a' listed₂ contents₂
      → (a ≡ a') × (listed₁ ≡ listed₂) × (contents₁ ≡ contents₂)
  stores_list_alike t listed contents p a a' listed₁ contents₁ listed₂ contents₂ u v =
      shows_alike _ _ listed contents a listed₁ contents₁ a' listed₂ contents₂
      (list_answers j keys values journal b t listed contents p a listed₁ contents₁ u)
      (map_list_answers r cs l t listed contents p a' listed₂ contents₂ v)

  -- They look up and read the same.
  pub stores_look_up_alike : (k t : ℕ) → shaped_reply x.head keys values journal (lookup_decided k t) ≡ lookup_reply k t m.head cs
  stores_look_up_alike k t = looks_up_the_history j keys values journal b k t ∙ sym (map_looks_up_the_history r cs l k t)

  pub stores_read_alike : (n k : ℕ) → shaped_reply x.head keys values journal (read_decided n k) ≡ read_reply n k m.head cs
  stores_read_alike n k = reads_the_history j keys values journal b n k ∙ sym (map_reads_the_history r cs l n k)

  -- Call by call they answer the same number and the same transaction number, unless one of them has no room: so they go on accepting the same calls.
  pub stores_answer_alike : (c : Call) (a a' : Reply) (head : Head) (journal' : List ℕ) (head' : MapHead) {cs' : Columns}
      → Wrote c x.head keys values journal a head journal' → Does m.head cs a' head' (Did c) cs'
      → a.number ≢ 12 → a'.number ≢ 12 → a ≡ a'
  stores_answer_alike c a a' head journal' head' u v one other =
      let h = history ds in
      let p = calls_answer j keys values journal b c a head journal' u in
      let q = map_answers r cs l a' head' v in
      let e = but_for_room (refusal_in (Did c) h) (x.head.journal.used + need_in c h) (room_of (length journal)) (λ z. one (ap (λ (i : Reply). i.number) p ∙ z)) in
      let f = but_for_rows m.head.used (shape.room_of (length cs.keys)) (Did c) h (λ z. other (ap (λ (i : Reply). i.number) q ∙ z)) in
      p ∙ ap (λ (n : ℕ). told n (gives_in c h)) (e ∙ sym f) ∙ sym q

  -- A checkpoint too, for which the map store always has room.
  pub stores_checkpoint_alike : (T : ℕ) (a a' : Reply) (head : Head) (keys' values' journal' : List ℕ) (head' : MapHead) {cs' : Columns}
      → checkpoint.Checkpointed T x.head keys values journal a head keys' values' journal' → Does m.head cs a' head' (Checkpointed T) cs'
      → a.number ≢ 12 → a ≡ a'
  stores_checkpoint_alike T a a' head keys' values' journal' head' u v one =
      let h = history ds in
      let p = checkpoint_answers j keys values journal b T a head keys' values' journal' u in
      let q = map_answers r cs l a' head' v in
      let e = but_for_room (refusal_in (Checkpointed T) h) (length (list_in h.commitments T)) (row_room (length keys)) (λ z. one (ap (λ (i : Reply). i.number) p ∙ z)) in
      p ∙ ap (λ (n : ℕ). told n None) e ∙ sym q
