-- CHECKPOINT IS SILENT, in both stores and between them. However many checkpoints a sequence has: at every time that is still answered for it lists what the
-- same sequence lists with any of its accepted checkpoints taken out, and without them the rules refuse none of its calls. Assumes nothing.
use Rattle.std.specs.Prelude.{◌≡◌, refl, List, [], ◌∷◌, ℕ, ◌≤◌, max, ltb, length}
use Rattle.std.proofs.Common.{ap, sym, ◌∙◌, subst, arith, le-ltb}
use Rattle.rules.specs.Passed.{passed}
use Rattle.rules.specs.Calls.{Call, Begin, Update, Abort, Commit, with_room}
use Rattle.answer.specs.Reply.{Reply}
use Rattle.journal_store.specs.CallContracts.{ListedBy}
use Rattle.versions.specs.Versions.{Columns}
use Rattle.history.specs.History.{Commitment, History, Deed, Did, Checkpointed, recalled, history, latest, list_in, without_checkpoints}
use Rattle.history.specs.Refusals.{last_in, time_refused, refusal_in}
use Rattle.history.proofs.Replayed.{whole}
use Rattle.history.specs.Lawful.{Lawful, start, went}
use Rattle.history.proofs.Told.{last_told}
use Rattle.history.proofs.Whole.{sound, tells}
use Rattle.history.specs.Cells.{Cells, end, Lent, Shows, Reached}
use Rattle.history.proofs.Lent.{shows_same, shows_alike}
use Rattle.history.proofs.Demands.{accepted_is_lawful, list_answers}
use Rattle.map_store.specs.CallContracts.{ListedAt}
use Rattle.history.specs.MapCells.{MapCells, MapLent, MapReached}
use Rattle.history.proofs.MapDemands.{map_accepted_is_lawful, map_list_answers}

-- a history with another low
abbrev with_low : ℕ → History → History
with_low low h = record { low = low; next = h.next; commitments = h.commitments; runners = h.runners }

-- a checkpoint moves low, and nothing else
pub only_low : (ds : List Deed) → history ds ≡ with_low (history ds).low (history (without_checkpoints ds))
only_low [] = refl
only_low (Did (Begin t) ∷ ds) = ap (recalled (Begin t)) (only_low ds)
only_low (Did (Update n k e) ∷ ds) = ap (recalled (Update n k e)) (only_low ds)
only_low (Did (Abort n) ∷ ds) = ap (recalled (Abort n)) (only_low ds)
only_low (Did (Commit n t) ∷ ds) = ap (recalled (Commit n t)) (only_low ds)
only_low (Checkpointed t ∷ ds) = ap (with_low t) (only_low ds)

no_low : (ds : List Deed) → (history (without_checkpoints ds)).low ≡ 0
no_low [] = refl
no_low (Did (Begin t) ∷ ds) = no_low ds
no_low (Did (Update n k e) ∷ ds) = no_low ds
no_low (Did (Abort n) ∷ ds) = no_low ds
no_low (Did (Commit n t) ∷ ds) = no_low ds
no_low (Checkpointed t ∷ ds) = no_low ds

-- last is the greatest of low and the commit times
pub latest_low : (low : ℕ) (cs : List Commitment) → latest low cs ≡ max low (latest 0 cs)
latest_low low [] = omega arith
latest_low low (c ∷ cs) = let i = latest_low low cs in omega arith

-- low never lies above the last commit
low_within : {ds : List Deed} → Lawful ds → (history ds).low ≤ latest 0 (history ds).commitments
low_within {ds} ok =
    let t = tells ok in
    rw (t.lows, t.commits, ← last_told 0 (whole ds).records) (sound ok).within

-- so last is the time of the last commit
last_commit : {ds : List Deed} → Lawful ds → last_in (history ds) ≡ latest 0 (history (without_checkpoints ds)).commitments
last_commit {ds} ok =
    let l = low_within ok in
    let e : (history ds).commitments ≡ (history (without_checkpoints ds)).commitments = ap (λ (h : History). h.commitments) (only_low ds) in
    latest_low (history ds).low (history ds).commitments ∙ rw (← e) (omega arith)

-- a list at t is answered as the history of some deeds answers it
abbrev Answers : List Deed → ℕ → List ℕ → List ℕ → Reply → List ℕ → List ℕ → Type 0
Answers ds t listed contents a listed' contents' =
    let rows = list_in (history ds).commitments t in
    Shows rows (with_room (time_refused t (history ds) 0) (length rows) (length listed)) listed contents a listed' contents'

-- Lawful deeds that differ in checkpoints alone: at every time from low on, of both, their histories have the same list, and refuse the same times.
module _ {ds ds' : List Deed} (ok : Lawful ds) (ok' : Lawful ds') (same : without_checkpoints ds ≡ without_checkpoints ds') where
  same_commitments : (history ds).commitments ≡ (history ds').commitments
  same_commitments =
      ap (λ (h : History). h.commitments) (only_low ds)
      ∙ ap (λ (l : List Deed). (history l).commitments) same
      ∙ sym (ap (λ (h : History). h.commitments) (only_low ds'))

  same_last : last_in (history ds) ≡ last_in (history ds')
  same_last = last_commit ok ∙ ap (λ (l : List Deed). latest 0 (history l).commitments) same ∙ sym (last_commit ok')

  -- so what shows the one list is what shows the other
  shown_alike : (t : ℕ) → (history ds).low ≤ t → (history ds').low ≤ t → (listed contents : List ℕ) (a b : Reply) (listed₁ contents₁ listed₂ contents₂ : List ℕ)
      → Answers ds t listed contents a listed₁ contents₁ → Answers ds' t listed contents b listed₂ contents₂
      → (a ≡ b) × (listed₁ ≡ listed₂) × (contents₁ ≡ contents₂)
  shown_alike t old old' listed contents a b listed₁ contents₁ listed₂ contents₂ u v =
      let rows = list_in (history ds).commitments t in
      let rows' = list_in (history ds').commitments t in
      let e : rows' ≡ rows = ap (λ (cs : List Commitment). list_in cs t) (sym same_commitments) in
      let f : time_refused t (history ds') 0 ≡ time_refused t (history ds) 0 = rw (le-ltb t (history ds).low old, le-ltb t (history ds').low old', same_last) in
      shows_alike rows (with_room (time_refused t (history ds) 0) (length rows) (length listed)) listed contents a listed₁ contents₁ b listed₂ contents₂ u
      (shows_same rows' rows (with_room (time_refused t (history ds') 0) (length rows') (length listed)) _ listed contents b listed₂ contents₂ (rw (f, e)) (λ z. e) v)

-- The same sequence with and without checkpoints: two stores reached with deeds that differ in checkpoints alone. At every time from low on, of both,
-- they answer a list alike: number, count and rows.
module _ {room room' : ℕ → Type 0} {ds ds' : List Deed} {since since' : ℕ} {x x' : Cells} (r : Reached room ds since x) (r' : Reached room' ds' since' x')
    (same : without_checkpoints ds ≡ without_checkpoints ds') where
  pub checkpoint_is_silent : (keys values journal keys' values' journal' : List ℕ) → Lent x (end x) keys values journal
      → Lent x' (end x') keys' values' journal' → (t : ℕ) → (history ds).low ≤ t → (history ds').low ≤ t
      → (listed contents : List ℕ) → length listed ≡ length contents → (a b : Reply) (listed₁ contents₁ listed₂ contents₂ : List ℕ)
      → ListedBy x.head keys values journal t listed contents a listed₁ contents₁
      → ListedBy x'.head keys' values' journal' t listed contents b listed₂ contents₂
      → (a ≡ b) × (listed₁ ≡ listed₂) × (contents₁ ≡ contents₂)
  checkpoint_is_silent keys values journal keys' values' journal' l l' t old old' listed contents p a b listed₁ contents₁ listed₂ contents₂ u v =
      shown_alike (accepted_is_lawful r) (accepted_is_lawful r') same t old old' listed contents a b listed₁ contents₁ listed₂ contents₂
      (list_answers r keys values journal l t listed contents p a listed₁ contents₁ u)
      (list_answers r' keys' values' journal' l' t listed contents p b listed₂ contents₂ v)

-- The same of two map stores.
module _ {ds ds' : List Deed} {m m' : MapCells} (r : MapReached ds m) (r' : MapReached ds' m') (same : without_checkpoints ds ≡ without_checkpoints ds') where
  pub map_checkpoint_is_silent : (cs cs' : Columns) → MapLent m cs → MapLent m' cs' → (t : ℕ) → (history ds).low ≤ t
      → (history ds').low ≤ t → (listed contents : List ℕ) → length listed ≡ length contents → (a b : Reply) (listed₁ contents₁ listed₂ contents₂ : List ℕ)
      → ListedAt t m.head cs listed contents a listed₁ contents₁
      → ListedAt t m'.head cs' listed contents b listed₂ contents₂
      → (a ≡ b) × (listed₁ ≡ listed₂) × (contents₁ ≡ contents₂)
  map_checkpoint_is_silent cs cs' l l' t old old' listed contents p a b listed₁ contents₁ listed₂ contents₂ u v =
      shown_alike (map_accepted_is_lawful r) (map_accepted_is_lawful r') same t old old' listed contents a b listed₁ contents₁ listed₂ contents₂
      (map_list_answers r cs l t listed contents p a listed₁ contents₁ u)
      (map_list_answers r' cs' l' t listed contents p b listed₂ contents₂ v)

-- And of a journal store and a map store, where one of them took checkpoints that the other refused or was not given.
module _ {room : ℕ → Type 0} {ds ds' : List Deed} {since : ℕ} {x : Cells} {m : MapCells} (r : Reached room ds since x) (r' : MapReached ds' m)
    (same : without_checkpoints ds ≡ without_checkpoints ds') where
  pub stores_list_alike_between_checkpoints : (keys values journal : List ℕ) → Lent x (end x) keys values journal → (cs : Columns) → MapLent m cs → (t : ℕ)
      → (history ds).low ≤ t → (history ds').low ≤ t → (listed contents : List ℕ) → length listed ≡ length contents
      → (a b : Reply) (listed₁ contents₁ listed₂ contents₂ : List ℕ)
      → ListedBy x.head keys values journal t listed contents a listed₁ contents₁
      → ListedAt t m.head cs listed contents b listed₂ contents₂
      → (a ≡ b) × (listed₁ ≡ listed₂) × (contents₁ ≡ contents₂)
  stores_list_alike_between_checkpoints keys values journal l cs l' t old old' listed contents p a b listed₁ contents₁ listed₂ contents₂ u v =
      shown_alike (accepted_is_lawful r) (map_accepted_is_lawful r') same t old old' listed contents a b listed₁ contents₁ listed₂ contents₂
      (list_answers r keys values journal l t listed contents p a listed₁ contents₁ u)
      (map_list_answers r' cs l' t listed contents p b listed₂ contents₂ v)

-- a call that is not refused, is not refused without the checkpoints
silent_call : {ds : List Deed} → Lawful ds → (c : Call) → refusal_in (Did c) (history ds) ≡ 0 → refusal_in (Did c) (history (without_checkpoints ds)) ≡ 0
silent_call {ds} ok (Begin t) e =
    let w = history (without_checkpoints ds) in
    let e' : refusal_in (Did (Begin t)) (with_low (history ds).low w) ≡ 0 = subst (λ (h : History). refusal_in (Did (Begin t)) h ≡ 0) (only_low ds) e in
    let a = passed (ltb t (history ds).low) 4 _ (omega arith) e' in
    let b : last_in (with_low (history ds).low w) ≡ last_in w = ap last_in (sym (only_low ds)) ∙ last_commit ok ∙ rw (no_low ds) in
    rw (le-ltb t w.low (omega (arith, no_low ds)), ← b) a.1
silent_call {ds} ok (Update n k f) e = subst (λ (h : History). refusal_in (Did (Update n k f)) h ≡ 0) (only_low ds) e
silent_call {ds} ok (Abort n) e = subst (λ (h : History). refusal_in (Did (Abort n)) h ≡ 0) (only_low ds) e
silent_call {ds} ok (Commit n t) e =
    let w = history (without_checkpoints ds) in
    let b : last_in (with_low (history ds).low w) ≡ last_in w = ap last_in (sym (only_low ds)) ∙ last_commit ok ∙ rw (no_low ds) in
    rw (← b) (subst (λ (h : History). refusal_in (Did (Commit n t)) h ≡ 0) (only_low ds) e)

lawful_without : {ds : List Deed} → Lawful ds → Lawful (without_checkpoints ds)
lawful_without start = start
lawful_without (went {d = Did c} {ds = ds} ok e) = went (lawful_without ok) (silent_call ok c e)
lawful_without (went {d = Checkpointed t} {ds = ds} ok e) = lawful_without ok

-- Without the checkpoints the rules refuse none of the calls that a store accepted with them.
pub silent_calls : {room : ℕ → Type 0} {ds : List Deed} {since : ℕ} {x : Cells} → Reached room ds since x → Lawful (without_checkpoints ds)
silent_calls r = lawful_without (accepted_is_lawful r)

pub map_silent_calls : {ds : List Deed} {m : MapCells} → MapReached ds m → Lawful (without_checkpoints ds)
map_silent_calls r = lawful_without (map_accepted_is_lawful r)
