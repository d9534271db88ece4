-- The whole journal of lawful deeds is sound, and their history tells it: the rules on records refuse what the history refuses, and read what it has.
-- Assumes nothing.
use Rattle.std.specs.Prelude.{◌≡◌, refl, true, false, List, [], ◌∷◌, ℕ}
use Rattle.std.proofs.Common.{sym, ◌∙◌, arith}
use Rattle.std.proofs.lemmas.Bool.{false≢true}
use Rattle.rules.specs.declared.Record.{Record}
use Rattle.rules.specs.Transactions.{of, snapshot}
use Rattle.rules.specs.Lists.{among}
use Rattle.rules.specs.Calls.{runs_in, read_of, Abort}
use Rattle.rules.specs.Bools.{split}
use Rattle.history.specs.History.{Deed, Did, numbers, history, aborting, value_in, reads}
use Rattle.history.specs.Refusals.{refusal_in}
use Rattle.history.proofs.Good.{none}
use Rattle.history.proofs.RecoveredAlike.{end_all}
use Rattle.history.proofs.Replayed.{whole, whole_base}
use Rattle.history.proofs.Allowed.{refused, Allowed, allowed}
use Rattle.history.specs.Lawful.{Lawful, start, went}
use Rattle.history.proofs.Sound.{Sound, sound_deed}
use Rattle.history.proofs.Told.{commitments_in, Tells, making_effects, value_told, runner, tells_deed}
use Rattle.history.proofs.RefusalsTold.{refused_told}

-- both at once: that a deed is allowed in the journal is what the history says of it
pub record Followed (ds : List Deed) : Type 0 where
  pub sound : Sound (whole ds)
  pub tells : Tells (history ds) (whole ds)

refuses : {ds : List Deed} → Followed ds → (d : Deed) → refused d (whole ds) ≡ refusal_in d (history ds)
refuses {ds} t d = refused_told (history ds) (whole ds) t.sound t.tells d

followed_deed : {ds : List Deed} → Followed ds → {d : Deed} → Allowed (whole ds) d → Followed (d ∷ ds)
followed_deed {ds} t {d} a =
    record { sound = sound_deed (whole ds) t.sound d a; tells = tells_deed (history ds) (whole ds) t.sound t.tells a }

followed : {ds : List Deed} → Lawful ds → Followed ds
followed start =
    record {
      sound = record { good = none; within = omega arith; from = λ n r. absurd (false≢true r); one = refl };
      tells =
          record { lows = refl; nexts = refl; commits = refl; runs_alike = refl; own = λ n u. absurd (false≢true u); snaps = λ n u. absurd (false≢true u) };
    }
followed (went {d = d} {ds = ds} l e) = followed_deed (followed l) (allowed (whole ds) d (refuses (followed l) d ∙ e))

-- lawful deeds leave the whole journal sound
pub sound : {ds : List Deed} → Lawful ds → Sound (whole ds)
sound l = (followed l).sound

-- their history tells it
pub tells : {ds : List Deed} → Lawful ds → Tells (history ds) (whole ds)
tells l = (followed l).tells

-- the journal of lawful deeds refuses what their history refuses
pub whole_refuses : {ds : List Deed} → Lawful ds → (d : Deed) → refused d (whole ds) ≡ refusal_in d (history ds)
whole_refuses l = refuses (followed l)

-- a lawful deed is one that the journal allows
pub lawful_allowed : {ds : List Deed} → Lawful ds → {d : Deed} → refusal_in d (history ds) ≡ 0 → Allowed (whole ds) d
lawful_allowed {ds} l {d} e = allowed (whole ds) d (whole_refuses l d ∙ e)

-- a read in the whole journal is a read in the history
pub read_told : {ds : List Deed} → Lawful ds → (n k : ℕ) → runs_in n (whole ds) ≡ true → read_of n k (whole ds) ≡ reads (history ds) n k
read_told {ds} l n k u =
    let b : List Record = (whole ds).records in
    let t = tells l in
    rw (whole_base ds, t.own n u, t.snaps n u, t.commits, value_told k (snapshot n b) b)
    (making_effects k (of n b) (value_in (commitments_in b) (snapshot n b) k))

-- the aborts of a restart, in the history and in the whole journal
pub lawful_aborting : (ns : List ℕ) (ds : List Deed) → Lawful ds → Lawful (aborting ns ds)
lawful_aborting [] ds l = l
lawful_aborting (n ∷ ns) ds l =
    split (among n (numbers (history ds).runners))
    (λ x.
    let u : runs_in n (whole ds) ≡ true = sym (runner (history ds) (whole ds) (sound l) (tells l) n) ∙ x in
    rw x (lawful_aborting ns (Did (Abort n) ∷ ds) (went l (rw x))))
    (λ x. rw x (lawful_aborting ns ds l))

-- in the whole journal
pub whole_aborting : (ns : List ℕ) (ds : List Deed) → Lawful ds → (whole (aborting ns ds)).records ≡ end_all ns (whole ds).records
whole_aborting [] ds l = refl
whole_aborting (n ∷ ns) ds l =
    let r = runner (history ds) (whole ds) (sound l) (tells l) n in
    split (among n (numbers (history ds).runners))
    (λ x.
    let u : runs_in n (whole ds) ≡ true = sym r ∙ x in
    rw (x, u, whole_aborting ns (Did (Abort n) ∷ ds) (went l (rw x))))
    (λ x. let u : runs_in n (whole ds) ≡ false = sym r ∙ x in rw (x, u, whole_aborting ns ds l))

-- low stays
pub low_aborting : (ns : List ℕ) (ds : List Deed) → (whole (aborting ns ds)).low ≡ (whole ds).low
low_aborting [] ds = refl
low_aborting (n ∷ ns) ds =
    split (among n (numbers (history ds).runners)) (λ x. rw (x, low_aborting ns (Did (Abort n) ∷ ds))) (λ x. rw (x, low_aborting ns ds))
