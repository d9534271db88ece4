-- The map store of lawful deeds, on what it means, answers as their history does. MapDemands says it of the lent cells. Assumes nothing.
use Rattle.std.specs.Prelude.{◌≡◌, refl, true, List, ℕ, ◌≤◌, length, ltb, Some}
use Rattle.std.proofs.Common.{ap, sym, ◌∙◌, arith, ltb-false}
use Rattle.rules.specs.Passed.{passed}
use Rattle.rules.specs.Bools.{not_both}
use Rattle.rules.specs.Transactions.{of, keys_written}
use Rattle.rules.specs.Lists.{among}
use Rattle.slot.specs.RowLaws.{length_keys}
use Rattle.rules.specs.Calls.{runs_in, Call, Begin, Update, Abort, Commit}
use Rattle.rules.proofs.Listing.{lists_unique}
use Rattle.slot.specs.Places.{Place, place_of}
use Rattle.map_store.specs.Meaning.{rows_at}
use Rattle.history.specs.History.{Deed, numbers, changes_of, history, value_in, reads, list_in}
use Rattle.history.specs.Refusals.{distinct_keys, last_in, time_refused, refusal_in, gives_in}
use Rattle.history.proofs.Listed.{history_lists}
use Rattle.history.proofs.Replayed.{whole}
use Rattle.history.specs.Lawful.{Lawful}
use Rattle.history.proofs.Told.{value_told, last_told, runner}
use Rattle.history.proofs.RefusalsTold.{keys_told}
use Rattle.history.proofs.Whole.{sound, tells, whole_refuses, read_told}
use Rattle.history.proofs.Maps.{map_refused, mapped}
use Rattle.history.proofs.MapPlaces.{firsts_written}
use Rattle.history.proofs.MapAgrees.{Says, idle, busy}
use Rattle.history.proofs.MapAnswers.{map_refused_lem, sane, agree, map_read}
use Rattle.versions.specs.Versions as versions
use Rattle.versions.specs.Laws as laws
use Rattle.map_store.specs.Meaning as map

module _ {ds : List Deed} (ok : Lawful ds) where
  -- Low, last and the next number are the history's.
  pub map_low : (mapped ds).low ≡ (history ds).low
  map_low = (agree ok).lows ∙ sym (tells ok).lows

  pub map_last : (mapped ds).last ≡ last_in (history ds)
  map_last = (agree ok).lasts ∙ last_told (whole ds).low (whole ds).records ∙ rw ((tells ok).lows, (tells ok).commits)

  pub map_gives : (c : Call) → map.gives c (mapped ds) ≡ gives_in c (history ds)
  map_gives (Begin t) = ap Some ((agree ok).nexts ∙ sym (tells ok).nexts)
  map_gives (Update n k e) = refl
  map_gives (Abort n) = refl
  map_gives (Commit n t) = refl

  -- Its refusals are the history's, number for number, room apart.
  pub map_refuses : (d : Deed) → map_refused d (mapped ds) ≡ refusal_in d (history ds)
  map_refuses d = map_refused_lem (mapped ds) (whole ds) (agree ok) (sane (whole ds) (sound ok)) (sound ok).one d ∙ whole_refuses ok d

  pub map_times : (t : ℕ) → map.list_refusal t (mapped ds) ≡ time_refused t (history ds) 0
  map_times t = rw (map_last, map_low)

  -- a time that is not refused is not below low
  not_old : (t : ℕ) → time_refused t (history ds) 0 ≡ 0 → (whole ds).low ≤ t
  not_old t e =
      rw (← (tells ok).lows) (ltb-false t (history ds).low (passed (ltb t (history ds).low) 4 _ (omega arith) e).0)

  -- At every time that is answered for it has the history's value of a key, and the history's list.
  value_from : (t k : ℕ) → 1 ≤ k → (whole ds).low ≤ t → versions.value_at k t (mapped ds).versions ≡ value_in (history ds).commitments t k
  value_from t k i l = (agree ok).values k t i l ∙ rw (tells ok).commits (value_told k t (whole ds).records)

  pub map_value : (t k : ℕ) → 1 ≤ k → time_refused t (history ds) 0 ≡ 0 → versions.value_at k t (mapped ds).versions ≡ value_in (history ds).commitments t k
  map_value t k i e = value_from t k i (not_old t e)

  pub map_list : (t : ℕ) → time_refused t (history ds) 0 ≡ 0 → versions.list_at (mapped ds).versions t ≡ list_in (history ds).commitments t
  map_list t e =
      let vs = (mapped ds).versions in
      let cs = (history ds).commitments in
      let p = laws.list_lists vs t in
      lists_unique (value_in cs t) (versions.list_at vs t) (list_in cs t)
      (record { values = λ k i. p.values k i ∙ value_from t k i (not_old t e); rises = p.rises })
      (history_lists cs t)

  -- what runs in the history runs in the whole journal
  runs_whole : (n : ℕ) → among n (numbers (history ds).runners) ≡ true → runs_in n (whole ds) ≡ true
  runs_whole n e = sym (runner (history ds) (whole ds) (sound ok) (tells ok) n) ∙ e

  -- A read in a running transaction gives the history's value at its snapshot, then its own changes.
  pub map_reads : (n k : ℕ) → among n (numbers (history ds).runners) ≡ true → 1 ≤ k → map.read_in n k (mapped ds) ≡ reads (history ds) n k
  map_reads n k e i = let u = runs_whole n e in map_read ok n k u i ∙ read_told ok n k u

  -- A commit of a running transaction writes a row for each key that it changed.
  pub map_rows : (n : ℕ) → among n (numbers (history ds).runners) ≡ true
      → length (rows_at (place_of n (mapped ds).places)) ≡ length (distinct_keys (changes_of n (history ds).runners))
  map_rows n e =
      let u = runs_whole n e in
      go u (place_of n (mapped ds).places) ((agree ok).says n)
      ∙ ap length (keys_told (of n (whole ds).records))
      ∙ rw ((tells ok).own n u)
    where
      go : runs_in n (whole ds) ≡ true → (p : Place) → Says (whole ds).records n p → length (rows_at p) ≡ length (keys_written (of n (whole ds).records))
      go u p (idle x) = not_both (runs_in n (whole ds)) u x
      go u p (busy s rows x v keys w b) =
          rw (firsts_written rows (of n (whole ds).records) keys) (sym (length_keys rows) ∙ ap length keys)
