-- What shuts out trivial stores, for both: an assign that was committed is looked up and listed, whatever came before it. And demand 1: every call
-- answers, and a refused one changes no cell, so that all answers stay as they were. Assumes nothing.
use Rattle.std.specs.Prelude.{◌≡◌, refl, true, not, List, ◌∷◌, ◌≢◌, ℕ, ◌≤◌, max, eqb, leb, ltb, length, Some}
use Rattle.std.proofs.Common.{ap, ◌∙◌, arith, eq-eqb, ne_eqb, le-leb, le-ltb, ltb-false, leb-false}
use Rattle.std.proofs.lemmas.Bool.{not-false, eqb-false}
use Rattle.rules.specs.declared.Effect.TheVariants.{Assign}
use Rattle.rules.specs.Values.{Row, row_value}
use Rattle.rules.specs.Lists.{among}
use Rattle.rules.specs.Passed.{passed}
use Rattle.rules.specs.Calls.{Call, Begin, Update, Abort, Commit}
use Rattle.answer.specs.Reply.{Reply, accepted, after}
use Rattle.journal_store.specs.declared.Head.{Head}
use Rattle.journal_store.specs.CallContracts.{number, Wrote, read_decided, lookup_decided, shaped_reply, list_number, ListedBy, recover_reply, Recovered}
use Rattle.history.specs.History.{History, Deed, Did, Checkpointed, numbers, history, value_in, list_in}
use Rattle.history.specs.Refusals.{last_in, time_refused, refusal_in, lookup_number}
use Rattle.history.specs.Lawful.{Lawful, went}
use Rattle.history.proofs.Listed.{history_lists}
use Rattle.history.proofs.Silence.{latest_low}
use Rattle.history.specs.Cells.{Cells, end, Lent, Shows, Reached}
use Rattle.history.proofs.Told.{changed_own}
use Rattle.history.proofs.Demands.{accepted_is_lawful, journal_lists_the_history, looks_up_the_history}
use Rattle.versions.specs.Versions.{Columns}
use Rattle.map_store.specs.declared.MapHead.{MapHead}
use Rattle.map_store.specs.CallContracts.{read_reply, lookup_reply, ListedAt}
use Rattle.history.specs.MapCells.{MapCells, MapLent, Does, begins, updates, aborts, commits, checkpoints, MapReached}
use Rattle.history.proofs.MapDemands.{map_accepted_is_lawful, map_lists, map_looks_up_the_history}
use Rattle.journal_store.specs.CallContracts as checkpoint
use Rattle.map_store.specs.CallContracts as contract

-- deeds that were accepted are ones that the history does not refuse
not_refused : {d : Deed} {ds : List Deed} → Lawful (d ∷ ds) → refusal_in d (history ds) ≡ 0
not_refused (went ok e) = e

before : {d : Deed} {ds : List Deed} → Lawful (d ∷ ds) → Lawful ds
before (went ok e) = ok

-- An assign that was accepted and then committed at t, after any lawful deeds: at t its register has its value.
module _ {ds : List Deed} (n k v t : ℕ) (ok : Lawful (Did (Commit n t) ∷ Did (Update n k (Assign v)) ∷ ds)) where
  abbrev told_by : History
  told_by = history (Did (Commit n t) ∷ Did (Update n k (Assign v)) ∷ ds)

  update_accepted : (among n (numbers (history ds).runners) ≡ true) × (k ≢ 0)
  update_accepted =
      let e = not_refused (before ok) in
      let a = passed (not (among n (numbers (history ds).runners))) 2 _ (omega arith) e in
      let b = passed (eqb k 0) 3 _ (omega arith) a.1 in
      (not-false (among n (numbers (history ds).runners)) a.0, eqb-false k 0 b.0)

  -- the history's value
  assigned : value_in told_by.commitments t k ≡ Some v
  assigned =
      rw (
        le-leb t t (omega arith),
        changed_own n (record { key = k; effect = Assign v }) (history ds).runners update_accepted.0,
        eq-eqb k k refl,
      )

  -- t is answered for
  answered : lookup_number k t told_by ≡ 0
  answered =
      let h = history (Did (Update n k (Assign v)) ∷ ds) in
      let e = not_refused ok in
      let a = passed (not (among n (numbers h.runners))) 2 _ (omega arith) e in
      let b = passed (leb t (last_in h)) 10 _ (omega arith) a.1 in
      let later = leb-false t (last_in h) b.0 in
      let from = latest_low h.low h.commitments in
      rw (ne_eqb k 0 update_accepted.1, le-ltb t h.low (omega arith), le-ltb (max (last_in h) t) t (omega arith))

  -- in time
  timely : (told_by.low ≤ t) × (t ≤ last_in told_by)
  timely =
      let y = (passed (eqb k 0) 3 (time_refused t told_by 0) (omega arith) answered).1 in
      let old = passed (ltb t told_by.low) 4 _ (omega arith) y in
      let new = passed (ltb (last_in told_by) t) 5 0 (omega arith) old.1 in
      (ltb-false _ _ old.0, ltb-false _ _ new.0)

  -- and the history's row
  row : row_value (list_in told_by.commitments t) k ≡ Some v
  row = let z = update_accepted.1 in (history_lists told_by.commitments t).values k (omega arith) ∙ assigned

-- It is looked up, and listed where the list has room.
module _ {room : ℕ → Type 0} {ds : List Deed} {since : ℕ} {x : Cells} (n k v t : ℕ)
    (r : Reached room (Did (Commit n t) ∷ Did (Update n k (Assign v)) ∷ ds) since x) (keys values journal : List ℕ)
    (l : Lent x (end x) keys values journal) where
  abbrev rows : List Row
  rows = list_in (history (Did (Commit n t) ∷ Did (Update n k (Assign v)) ∷ ds)).commitments t

  pub a_committed_assign_is_looked_up : shaped_reply x.head keys values journal (lookup_decided k t) ≡ accepted (Some v)
  a_committed_assign_is_looked_up =
      let ok = accepted_is_lawful r in
      looks_up_the_history r keys values journal l k t ∙ rw (answered n k v t ok, assigned n k v t ok)

  pub a_committed_assign_is_listed : (listed contents : List ℕ) → length listed ≡ length contents → length rows ≤ length listed
      → (a : Reply) (listed' contents' : List ℕ) → ListedBy x.head keys values journal t listed contents a listed' contents'
      → Shows rows 0 listed contents a listed' contents' × (row_value rows k ≡ Some v)
  a_committed_assign_is_listed listed contents p fits a listed' contents' w =
      let ok = accepted_is_lawful r in
      let y = timely n k v t ok in
      (journal_lists_the_history r keys values journal l t y.0 y.1 listed contents p fits a listed' contents' w, row n k v t ok)

module _ {ds : List Deed} {m : MapCells} (n k v t : ℕ) (r : MapReached (Did (Commit n t) ∷ Did (Update n k (Assign v)) ∷ ds) m) (cs : Columns)
    (l : MapLent m cs) where
  abbrev map_rows : List Row
  map_rows = list_in (history (Did (Commit n t) ∷ Did (Update n k (Assign v)) ∷ ds)).commitments t

  pub the_map_looks_up_a_committed_assign : lookup_reply k t m.head cs ≡ accepted (Some v)
  the_map_looks_up_a_committed_assign =
      let ok = map_accepted_is_lawful r in
      map_looks_up_the_history r cs l k t ∙ rw (answered n k v t ok, assigned n k v t ok)

  pub the_map_lists_a_committed_assign : (listed contents : List ℕ) → length listed ≡ length contents → length map_rows ≤ length listed
      → (a : Reply) (listed' contents' : List ℕ) → ListedAt t m.head cs listed contents a listed' contents'
      → Shows map_rows 0 listed contents a listed' contents' × (row_value map_rows k ≡ Some v)
  the_map_lists_a_committed_assign listed contents p fits a listed' contents' w =
      let ok = map_accepted_is_lawful r in
      let y = timely n k v t ok in
      (map_lists r cs l t y.0 y.1 listed contents p fits a listed' contents' w, row n k v t ok)

-- A refused call returns the head that it got and leaves every lent cell, in any store, also a damaged one.
kept : {A : Type 0} (m n : ℕ) (new old : A) → m ≡ n → m ≢ 0 → after n new old ≡ old
kept m n new old p f = rw (ne_eqb n 0 (λ e. f (p ∙ e)))

pub a_refused_call_changes_nothing : (c : Call) (h : Head) (keys values j : List ℕ) (a : Reply) (head : Head) (j' : List ℕ)
    → Wrote c h keys values j a head j' → a.number ≢ 0 → (head ≡ h) × (j' ≡ j)
a_refused_call_changes_nothing c h keys values j a head j' w f =
    let n = number c h keys values j in
    let p = ap (λ (r : Reply). r.number) w.reply in
    (w.headed ∙ kept a.number n _ h p f, w.cells ∙ kept a.number n _ j p f)

pub a_refused_checkpoint_changes_nothing : (T : ℕ) (h : Head) (keys values j : List ℕ) (a : Reply) (head : Head) (keys' values' j' : List ℕ)
    → checkpoint.Checkpointed T h keys values j a head keys' values' j' → a.number ≢ 0 → (head ≡ h) × (keys' ≡ keys) × (values' ≡ values) × (j' ≡ j)
a_refused_checkpoint_changes_nothing T h keys values j a head keys' values' j' w f =
    let n = checkpoint.checkpoint_number T h keys values j in
    let p = ap (λ (r : Reply). r.number) w.reply in
    (w.headed ∙ kept a.number n _ h p f, w.keys_column ∙ kept a.number n _ keys p f, w.values_column ∙ kept a.number n _ values p f, w.cells ∙ kept a.number n _ j p f)

pub a_refused_recovery_changes_nothing : (h : Head) (keys values j : List ℕ) (survived : ℕ) (a : Reply) (head : Head) (j' : List ℕ)
    → Recovered h keys values j survived a head j' → a.number ≢ 0 → (head ≡ h) × (j' ≡ j)
a_refused_recovery_changes_nothing h keys values j survived a head j' w f =
    let n = (recover_reply h keys values j survived).number in
    let p = ap (λ (r : Reply). r.number) w.reply in
    (w.headed ∙ kept a.number n _ h p f, w.cells ∙ kept a.number n _ j p f)

pub a_refused_list_changes_nothing : (t : ℕ) (h : Head) (keys values j listed contents : List ℕ) (a : Reply) (listed' contents' : List ℕ)
    → ListedBy h keys values j t listed contents a listed' contents' → a.number ≢ 0 → (listed' ≡ listed) × (contents' ≡ contents)
a_refused_list_changes_nothing t h keys values j listed contents a listed' contents' w f =
    let n = list_number h keys values j t (length listed) (length contents) in
    let p = ap (λ (r : Reply). r.number) w.reply in
    (w.keys_column ∙ kept a.number n _ listed p f, w.values_column ∙ kept a.number n _ contents p f)

-- So does every call of the map store; its lookups and reads, as the journal store's, are lent nothing that they could change.
pub a_refused_map_call_changes_nothing : {d : Deed} (h : MapHead) (cs : Columns) (a : Reply) (head : MapHead) {cs' : Columns}
    → Does h cs a head d cs' → a.number ≢ 0 → (head ≡ h) × (cs' ≡ cs)
a_refused_map_call_changes_nothing h cs a head (begins t w) f =
    (w.headed ∙ kept a.number (contract.number (Begin t) h cs) _ h (ap (λ (r : Reply). r.number) w.reply) f, refl)
a_refused_map_call_changes_nothing h cs a head (updates n k e w) f =
    (w.headed ∙ kept a.number (contract.number (Update n k e) h cs) _ h (ap (λ (r : Reply). r.number) w.reply) f, refl)
a_refused_map_call_changes_nothing h cs a head (aborts n w) f =
    (w.headed ∙ kept a.number (contract.number (Abort n) h cs) _ h (ap (λ (r : Reply). r.number) w.reply) f, refl)
a_refused_map_call_changes_nothing h cs a head (commits n t cs' w) f =
    let i = contract.number (Commit n t) h cs in
    let p = ap (λ (r : Reply). r.number) w.answered.reply in
    (w.answered.headed ∙ kept a.number i _ h p f, w.cells ∙ kept a.number i _ cs p f)
a_refused_map_call_changes_nothing h cs a head (checkpoints T cs' w) f =
    let i = contract.checkpoint_number T h cs in
    let p = ap (λ (r : Reply). r.number) w.reply in
    (w.headed ∙ kept a.number i _ h p f, w.cells ∙ kept a.number i _ cs p f)

pub a_refused_map_list_changes_nothing : (t : ℕ) (h : MapHead) (cs : Columns) (listed contents : List ℕ) (a : Reply) (listed' contents' : List ℕ)
    → ListedAt t h cs listed contents a listed' contents' → a.number ≢ 0 → (listed' ≡ listed) × (contents' ≡ contents)
a_refused_map_list_changes_nothing t h cs listed contents a listed' contents' w f =
    let n = contract.list_number t h cs listed contents in
    let p = ap (λ (r : Reply). r.number) w.reply in
    (w.keys ∙ kept a.number n _ listed p f, w.values ∙ kept a.number n _ contents p f)

-- Every call on any store has an answer, head and cells that its contract allows, and by the stores' Unique one alone: any sequence can go on.
pub every_call_answers : (c : Call) (h : Head) (keys values j : List ℕ) → (a : Reply) × (head : Head) × (j' : List ℕ) × Wrote c h keys values j a head j'
every_call_answers c h keys values j = (_, _, _, record { reply = refl; headed = refl; cells = refl })

pub every_checkpoint_answers : (T : ℕ) (h : Head) (keys values j : List ℕ)
    → (a : Reply) × (head : Head) × (keys' : List ℕ) × (values' : List ℕ) × (j' : List ℕ) × checkpoint.Checkpointed T h keys values j a head keys' values' j'
every_checkpoint_answers T h keys values j =
    (_, _, _, _, _, record { reply = refl; headed = refl; keys_column = refl; values_column = refl; cells = refl })

pub every_recovery_answers : (h : Head) (keys values j : List ℕ) (survived : ℕ) → (a : Reply) × (head : Head) × (j' : List ℕ) × Recovered h keys values j survived a head j'
every_recovery_answers h keys values j survived = (_, _, _, record { reply = refl; headed = refl; cells = refl })

pub every_list_answers : (t : ℕ) (h : Head) (keys values j listed contents : List ℕ)
    → (a : Reply) × (listed' : List ℕ) × (contents' : List ℕ) × ListedBy h keys values j t listed contents a listed' contents'
every_list_answers t h keys values j listed contents = (_, _, _, record { reply = refl; keys_column = refl; values_column = refl })

-- Lookup and read answer by an equation.
pub every_lookup_answers : (k t : ℕ) (h : Head) (keys values j : List ℕ) → (a : Reply) × (a ≡ shaped_reply h keys values j (lookup_decided k t))
every_lookup_answers k t h keys values j = (_, refl)

pub every_read_answers : (n k : ℕ) (h : Head) (keys values j : List ℕ) → (a : Reply) × (a ≡ shaped_reply h keys values j (read_decided n k))
every_read_answers n k h keys values j = (_, refl)

-- The map store's calls.
pub every_map_call_answers : (d : Deed) (h : MapHead) (cs : Columns)
    → (a : Reply) × (head : MapHead) × (cs' : Columns) × Does h cs a head d cs'
every_map_call_answers (Did (Begin t)) h cs = (_, _, cs, begins t (record { reply = refl; headed = refl }))
every_map_call_answers (Did (Update n k e)) h cs = (_, _, cs, updates n k e (record { reply = refl; headed = refl }))
every_map_call_answers (Did (Abort n)) h cs = (_, _, cs, aborts n (record { reply = refl; headed = refl }))
every_map_call_answers (Did (Commit n t)) h cs =
    (_, _, _, commits n t _ (record { answered = record { reply = refl; headed = refl }; cells = refl }))
every_map_call_answers (Checkpointed T) h cs =
    (_, _, _, checkpoints T _ (record { reply = refl; headed = refl; cells = refl }))

pub every_map_list_answers : (t : ℕ) (h : MapHead) (cs : Columns) (listed contents : List ℕ)
    → (a : Reply) × (listed' : List ℕ) × (contents' : List ℕ) × ListedAt t h cs listed contents a listed' contents'
every_map_list_answers t h cs listed contents = (_, _, _, record { reply = refl; keys = refl; values = refl })

pub every_map_lookup_answers : (k t : ℕ) (h : MapHead) (cs : Columns) → (a : Reply) × (a ≡ lookup_reply k t h cs)
every_map_lookup_answers k t h cs = (_, refl)

pub every_map_read_answers : (n k : ℕ) (h : MapHead) (cs : Columns) → (a : Reply) × (a ≡ read_reply n k h cs)
every_map_read_answers n k h cs = (_, refl)
