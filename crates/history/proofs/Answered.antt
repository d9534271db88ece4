-- What the invariant gives: the store answers as the history of its deeds; a checkpoint and a restart are seen only where the rules say so.
-- Assumes nothing.
use Rattle.std.specs.Prelude.{◌≡◌, refl, true, List, [], ◌∷◌, ℕ, ◌≤◌, length, drop}
use Rattle.std.proofs.Common.{ap, sym, ◌∙◌, arith}
use Rattle.rules.specs.Transactions.{of, runs, snapshot}
use Rattle.rules.specs.Lists.{among}
use Rattle.rules.specs.Recovery.{survivors}
use Rattle.rules.specs.Calls.{last_of, next_of, running_of, runs_in, value_of, list_of, read_of, Abort}
use Rattle.rules.specs.Bools.{split}
use Rattle.rules.proofs.Listing.{list_lists, lists_unique}
use Rattle.history.specs.History.{Runner, Deed, Did, numbers, history, aborting, restarted, value_in, reads, list_in}
use Rattle.history.specs.Refusals.{last_in}
use Rattle.history.proofs.Course.{Course, lose, recovered}
use Rattle.history.proofs.Listed.{history_lists}
use Rattle.history.proofs.Recovered.{survivors_none}
use Rattle.history.proofs.Replayed.{whole, whole_base}
use Rattle.history.proofs.Told.{value_told, last_told}
use Rattle.history.proofs.Whole.{tells, read_told}
use Rattle.history.proofs.Tied.{Tied, tied_restart, now, low_now, from_now, value_now, next_above}
use Rattle.history.proofs.Room.{running_none}

module _ (y : Course) (h : Tied y) where
  pub low_same : y.store.low ≡ (history y.deeds).low
  low_same = sym ((tells h.lawful).lows ∙ low_now y h)

  pub last_same : last_of y.store ≡ last_in (history y.deeds)
  last_same =
      let t = tells h.lawful in
      rw ((now y h).lasts, ← low_same, t.commits) (last_told y.store.low (whole y.deeds).records)

  pub next_same : next_of y.store ≡ (history y.deeds).next
  next_same = next_above y h ∙ (now y h).aboves ∙ sym (tells h.lawful).nexts

  pub running_same : running_of y.store ≡ numbers (history y.deeds).runners
  running_same = (now y h).runnings ∙ sym (tells h.lawful).runs_alike

  pub value_same : (t k : ℕ) → 1 ≤ k → y.store.low ≤ t → value_of k t y.store ≡ value_in (history y.deeds).commitments t k
  value_same t k i l = value_now y h k t i l ∙ rw (tells h.lawful).commits (value_told k t (whole y.deeds).records)

  pub list_same : (t : ℕ) → y.store.low ≤ t → list_of t y.store ≡ list_in (history y.deeds).commitments t
  list_same t l =
      let s = y.store in
      let cs = (history y.deeds).commitments in
      let p = list_lists s.base s.records t in
      lists_unique (value_in cs t) (list_of t s) (list_in cs t)
      (record { values = λ k i. p.values k i ∙ value_same t k i l; rises = p.rises })
      (history_lists cs t)

  pub read_same : (n k : ℕ) → runs_in n y.store ≡ true → 1 ≤ k → read_of n k y.store ≡ reads (history y.deeds) n k
  read_same n k u i =
      let b = (whole y.deeds).records in
      let v : runs n b ≡ true = sym ((now y h).run n) ∙ u in
      let o : of n y.store.records ≡ of n b = (now y h).own n u in
      let l : y.store.low ≤ snapshot n b = rw o at (from_now y h n u) in
      rw (o, value_now y h k (snapshot n b) i l) (rw (whole_base y.deeds) at (read_told h.lawful n k v))

-- aborts change no committed transaction, and not low
aborting_commitments : (ns : List ℕ) (ds : List Deed) → (history (aborting ns ds)).commitments ≡ (history ds).commitments
aborting_commitments [] ds = refl
aborting_commitments (n ∷ ns) ds =
    split (among n (numbers (history ds).runners))
    (λ x. rw x (aborting_commitments ns (Did (Abort n) ∷ ds)))
    (λ x. rw x (aborting_commitments ns ds))

pub aborting_low : (ns : List ℕ) (ds : List Deed) → (history (aborting ns ds)).low ≡ (history ds).low
aborting_low [] ds = refl
aborting_low (n ∷ ns) ds =
    split (among n (numbers (history ds).runners))
    (λ x. rw x (aborting_low ns (Did (Abort n) ∷ ds)))
    (λ x. rw x (aborting_low ns ds))

no_runners : (rs : List Runner) → numbers rs ≡ [] → rs ≡ []
no_runners [] e = refl
no_runners (r ∷ rs) e = let z : length (numbers (r ∷ rs)) ≡ 0 = ap length e in absurd (omega arith)

-- a restart takes back no committed transaction but those whose records are lost
pub restarted_commitments : (x : ℕ) (ds : List Deed) → (history (restarted x ds)).commitments ≡ (history (drop x ds)).commitments
restarted_commitments x ds = aborting_commitments (numbers (history (drop x ds)).runners) (drop x ds)

-- a restart
module _ (y : Course) (h : Tied y) (x : ℕ) (l : x ≤ y.since) where
  pub restarted_runners : (history (restarted x y.deeds)).runners ≡ []
  restarted_runners =
      no_runners (history (restarted x y.deeds)).runners
      (sym (running_same (record { store = recovered (lose x y.store); deeds = restarted x y.deeds; since = 0 }) (tied_restart y h x l))
      ∙ running_none (survivors (drop x y.store.records)) (survivors_none (drop x y.store.records)))
