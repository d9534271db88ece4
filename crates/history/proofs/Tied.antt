-- The invariant of every sequence, step by step: the store answers as the whole journal of its deeds, and its own journal is one that the walk accepts, also where
-- the newest records since the latest checkpoint, restart or start are cut off. Assumes nothing.
use Rattle.std.specs.Prelude.{◌≡◌, refl, Bool, true, not, List, [], ◌∷◌, ℕ, zero, suc, ◌≤◌, drop, None}
use Rattle.std.proofs.Common.{ap, sym, ◌∙◌, subst, arith}
use Rattle.rules.specs.Limits.{numbers_end}
use Rattle.rules.specs.declared.Record.{Record}
use Rattle.rules.specs.Value.{Value}
use Rattle.rules.specs.Kinds.{is_begin, is_end}
use Rattle.rules.specs.Transactions.{any, of, runs}
use Rattle.rules.specs.Times.{last, above, next}
use Rattle.rules.specs.Values.{row_value, value}
use Rattle.rules.specs.Lists.{among, rising}
use Rattle.rules.specs.Recovery.{done, only}
use Rattle.rules.specs.Calls.{Store, empty, last_of, next_of, runs_in, snapshot_in, value_of, Call, Begin, Update, Abort, Commit, record_of, refusal, checkpoint_refusal, push, checkpointed, kept_of, list_of}
use Rattle.rules.specs.Bools.{split, implies_false}
use Rattle.rules.specs.Running.{not_ended}
use Rattle.rules.proofs.Listing.{list_lists}
use Rattle.journal.specs.PastLaws.{low_last}
use Rattle.history.specs.History.{Deed, Did, Checkpointed, numbers, history, restarted_by, restarted}
use Rattle.history.proofs.Course.{Course, lose, recovered_by, recovered, walk_low}
use Rattle.history.proofs.Good.{Step, Good, none, more}
use Rattle.history.proofs.Alike.{Alike, alike_step}
use Rattle.history.proofs.Kept.{last_low}
use Rattle.history.proofs.ValueSince.{since_all}
use Rattle.history.proofs.KeptAlike.{alike_checkpoint, good_checkpoint}
use Rattle.history.proofs.RecoveredAlike.{committed_ends, good_recover, last_recover, alike_recover}
use Rattle.history.proofs.RefusedAlike.{conflict_same, held_same}
use Rattle.history.proofs.GoodLaws.{above_mono, above_least, above_top, last_more, step_lower}
use Rattle.history.proofs.Replayed.{whole, whole_floor}
use Rattle.history.proofs.Allowed.{refused, Allowed, may_checkpoint, allowed}
use Rattle.history.proofs.Written.{begins_next, same_record, call_step}
use Rattle.history.specs.Lawful.{Lawful, start, went}
use Rattle.history.proofs.LawfulLaws.{lawful_drop}
use Rattle.history.proofs.Told.{runner}
use Rattle.history.proofs.Whole.{sound, tells, whole_refuses, lawful_aborting, whole_aborting, low_aborting}

-- the records written since, and the deeds that wrote them: `i` of them
pub data Since (walked f : ℕ) (mark : List Record) (past : List Deed) : ℕ → List Record → List Deed → Type 0 where
  marked : Since walked f mark past 0 mark past
  grown : {i : ℕ} {a : List Record} {ds : List Deed} (r : Record) (d : Deed) → Since walked f mark past i a ds → Step walked a r
      → (is_begin r ≡ true → above f a ≤ r.transaction) → whole (d ∷ ds) ≡ push r (whole ds) → Since walked f mark past (suc i) (r ∷ a) (d ∷ ds)

module _ {walked f : ℕ} {mark : List Record} {past : List Deed} where
  -- low stays
  low_since : {i : ℕ} {a : List Record} {ds : List Deed} → Since walked f mark past i a ds → (whole ds).low ≡ (whole past).low
  low_since marked = refl
  low_since (grown r d s x p e) = ap (λ (st : Store). st.low) e ∙ low_since s

  -- the journal stays good
  good_since : {i : ℕ} {a : List Record} {ds : List Deed} → Good walked mark → Since walked f mark past i a ds → Good walked a
  good_since g marked = g
  good_since g (grown r d s x p e) = more (good_since g s) x

  -- last only rises
  last_since : {i : ℕ} {a : List Record} {ds : List Deed} → Since walked f mark past i a ds → last walked mark ≤ last walked a
  last_since marked = omega arith
  last_since (grown {a = a} r d s x p e) = omega (arith, last_since s, last_more walked r a)

  -- two journals stay alike when the same steps are written in both
  alike_since : (low fb : ℕ) (va vb : ℕ → Value) {i : ℕ} {a : List Record} {ds : List Deed} → low ≤ last walked mark
      → Alike low f fb va vb mark (whole past).records → Since walked f mark past i a ds → Alike low f fb va vb a (whole ds).records
  alike_since low fb va vb l h marked = h
  alike_since low fb va vb l h (grown {a = a} {ds = ds} r d s x p e) =
      subst (λ (st : Store). Alike low f fb va vb (r ∷ a) st.records) (sym e)
      (alike_step low f fb va vb a (whole ds).records (alike_since low fb va vb l h s) r p x.goes_on
      (λ c. omega (arith, (x.settles c).later, last_since s)))

  -- a cut since the mark
  since_lost : {i : ℕ} {a : List Record} {ds : List Deed} (x : ℕ) → x ≤ i → Since walked f mark past i a ds
      → (j : ℕ) × Since walked f mark past j (drop x a) (drop x ds)
  since_lost {i = i} zero l s = (i, s)
  since_lost (suc x) l marked = absurd (omega arith)
  since_lost (suc x) l (grown r d s y p e) = since_lost x (omega arith) s

-- the journal and the deeds as they stood at the mark, and what was done since; the walk's low is not above the answers' low (behind), and the
-- commits that the walk reads have reached that (within)
pub record Tied (y : Course) : Type 0 where
  pub mark : List Record
  pub past : List Deed
  pub alike : Alike y.store.low y.store.floor 1 (row_value y.store.base) (λ k. None) mark (whole past).records
  pub good : Good (walk_low y.store) mark
  pub since : Since (walk_low y.store) y.store.floor mark past y.since y.store.records y.deeds
  pub behind : walk_low y.store ≤ y.store.low
  pub within : y.store.low ≤ last (walk_low y.store) mark
  pub lows : (whole past).low ≡ y.store.low
  pub floored : 1 ≤ y.store.floor
  pub capped : y.store.floor ≤ numbers_end
  pub sorted : rising 0 y.store.base ≡ true
  pub lawful : Lawful y.deeds

-- the store after a cut of the newest x records, and the whole journal of the deeds that are left
module _ (y : Course) (h : Tied y) (x : ℕ) (l : x ≤ y.since) where
  -- what is left is good
  pub cut_good : Good (walk_low y.store) (drop x y.store.records)
  cut_good = good_since h.good (since_lost x l h.since).1

  -- and answers as the whole journal of the deeds that are left
  cut_alike : Alike y.store.low y.store.floor 1 (row_value y.store.base) (λ k. None) (drop x y.store.records) (whole (drop x y.deeds)).records
  cut_alike = alike_since y.store.low 1 (row_value y.store.base) (λ k. None) h.within h.alike (since_lost x l h.since).1

  -- low
  cut_low : (whole (drop x y.deeds)).low ≡ y.store.low
  cut_low = low_since (since_lost x l h.since).1 ∙ h.lows

  -- the next number
  cut_next : next y.store.floor (drop x y.store.records) ≡ above y.store.floor (drop x y.store.records)
  cut_next = let t = above_top y.store.floor h.capped cut_good in omega arith

  -- recovery keeps the invariant, whichever transactions it keeps and the history does not abort: every one with a commit, and of the running ones those
  -- that are not to be aborted
  tied_recovered : (K : ℕ → Bool) (ns : List ℕ) → ((n : ℕ) → done (drop x y.store.records) n ≡ true → K n ≡ true)
      → ((n : ℕ) → runs n (drop x y.store.records) ≡ true → K n ≡ not (among n ns))
      → Tied (record { store = recovered_by K (lose x y.store); deeds = restarted_by ns x y.deeds; since = 0 })
  tied_recovered K ns keeps choice =
      let f : ℕ = y.store.floor in
      let a : List Record = drop x y.store.records in
      let left : List Deed = drop x y.deeds in
      let ok : Lawful left = lawful_drop x h.lawful in
      record {
        mark = only K a;
        past = restarted_by ns x y.deeds;
        alike =
            rw (cut_next, whole_aborting ns left ok)
            (alike_recover K keeps cut_good y.store.low f 1 (row_value y.store.base) (λ k. None) (whole left).records h.behind cut_alike ns choice);
        good = good_recover K keeps cut_good;
        since = marked;
        behind = h.behind;
        within = rw (last_recover K keeps cut_good) (omega (arith, h.within, last_since (since_lost x l h.since).1));
        lows = low_aborting ns left ∙ cut_low;
        floored = rw cut_next (omega (arith, h.floored, above_least f a));
        capped = omega arith;
        sorted = h.sorted;
        lawful = lawful_aborting ns left ok;
      }

  -- a restart keeps what has a commit, and aborts all that runs
  pub tied_restart : Tied (record { store = recovered (lose x y.store); deeds = restarted x y.deeds; since = 0 })
  tied_restart =
      let a : List Record = drop x y.store.records in
      let left : List Deed = drop x y.deeds in
      let ok : Lawful left = lawful_drop x h.lawful in
      tied_recovered (done a) (numbers (history left).runners) (λ n d. d)
      (λ n u.
      let r : among n (numbers (history left).runners) ≡ true = runner (history left) (whole left) (sound ok) (tells ok) n ∙ sym (cut_alike.run n) ∙ u in
      rw (implies_false (done a n) (any is_end (of n a)) (committed_ends (of n a)) (not_ended (of n a) u), r))

module _ (y : Course) (h : Tied y) where
  -- the store answers as the whole journal of its deeds
  pub now : Alike y.store.low y.store.floor 1 (row_value y.store.base) (λ k. None) y.store.records (whole y.deeds).records
  now = cut_alike y h 0 (omega arith)

  -- its journal is good
  pub good_now : Good (walk_low y.store) y.store.records
  good_now = cut_good y h 0 (omega arith)

  -- low
  pub low_now : (whole y.deeds).low ≡ y.store.low
  low_now = cut_low y h 0 (omega arith)

  -- last is the same for the walk
  last_now : last (walk_low y.store) y.store.records ≡ last_of y.store
  last_now =
      rw (last_low (walk_low y.store) y.store.low y.store.records h.behind) (omega (arith, h.within, last_since h.since))

  -- no running snapshot is below low
  pub from_now : (n : ℕ) → runs_in n y.store ≡ true → y.store.low ≤ snapshot_in n y.store
  from_now n u = rw (← low_now, now.own n u) ((sound h.lawful).from n (sym (now.run n) ∙ u))

  -- the store's values are the whole journal's
  pub value_now : (k t : ℕ) → 1 ≤ k → y.store.low ≤ t → value_of k t y.store ≡ value None k t (whole y.deeds).records
  value_now k t i l = sym (since_all k t y.store.low (row_value y.store.base k) good_now) ∙ now.values k t i l

  -- the next number needs no cap
  pub next_above : next_of y.store ≡ above y.store.floor y.store.records
  next_above = cut_next y h 0 (omega arith)

  -- and is the whole journal's
  next_whole : next_of y.store ≡ next_of (whole y.deeds)
  next_whole = rw (now.aboves, whole_floor y.deeds)

  -- the store refuses what the whole journal would refuse
  pub refused_alike : (d : Deed) → refused d y.store ≡ refused d (whole y.deeds)
  refused_alike (Did (Begin t)) = rw (low_now, whole_floor y.deeds, now.lasts, now.runnings, now.aboves)
  refused_alike (Did (Update n k e)) =
      split (runs_in n y.store) (λ u. rw (← now.run n, u, now.own n u)) (λ u. rw (← now.run n, u))
  refused_alike (Did (Abort n)) = rw (now.run n)
  refused_alike (Did (Commit n t)) =
      split (runs_in n y.store)
      (λ u.
      rw (
        ← now.run n,
        u,
        low_now,
        now.lasts,
        conflict_same y.store.low y.store.floor 1 (row_value y.store.base) (λ k. None) y.store.records
            (whole y.deeds).records now n u (from_now n u),
      ))
      (λ u. rw (← now.run n, u))
  refused_alike (Checkpointed t) =
      rw (
        low_now,
        now.lasts,
        held_same y.store.low y.store.floor 1 (row_value y.store.base) (λ k. None) y.store.records (whole y.deeds).records now t,
      )

  -- one record more
  grow : (r : Record) (d : Deed) → refused d y.store ≡ 0 → Step (walk_low y.store) y.store.records r
      → (is_begin r ≡ true → above y.store.floor y.store.records ≤ r.transaction) → whole (d ∷ y.deeds) ≡ push r (whole y.deeds)
      → Tied (record { store = push r y.store; deeds = d ∷ y.deeds; since = suc y.since })
  grow r d ok s p e =
      record {
        mark = h.mark;
        past = h.past;
        alike = h.alike;
        good = h.good;
        since = grown r d h.since s p e;
        behind = h.behind;
        within = h.within;
        lows = h.lows;
        floored = h.floored;
        capped = h.capped;
        sorted = h.sorted;
        lawful = went h.lawful (sym (whole_refuses h.lawful d) ∙ sym (refused_alike d) ∙ ok);
      }

  -- an accepted call
  pub tied_call : (c : Call) → refusal c y.store ≡ 0
      → Tied (record { store = push (record_of c y.store) y.store; deeds = Did c ∷ y.deeds; since = suc y.since })
  tied_call c ok =
      let i = above_mono 1 y.store.floor y.store.records h.floored in
      let s = call_step y.store (omega (arith, next_above)) (allowed y.store (Did c) ok) in
      grow (record_of c y.store) (Did c) ok (step_lower h.behind last_now s)
      (λ b. omega (arith, next_above, begins_next c y.store b))
      (ap (λ (r : Record). push r (whole y.deeds)) (same_record c (whole y.deeds) y.store (sym next_whole)))

  -- a checkpoint's store answers as the whole journal
  pub alike_checkpointed : {T : ℕ} → Allowed y.store (Checkpointed T)
      → Alike T (next_of y.store) 1 (row_value (checkpointed T y.store).base) (λ k. None) (kept_of T y.store) (whole y.deeds).records
  alike_checkpointed (may_checkpoint T l m n) =
      rw next_above
      (alike_checkpoint y.store.low y.store.floor 1 (row_value y.store.base) (λ k. None) y.store.records (whole y.deeds).records now
      good_now T (row_value (list_of T y.store)) l n
      (λ k i.
      (list_lists y.store.base y.store.records T).values k i ∙ sym (since_all k T y.store.low (row_value y.store.base k) good_now)))

  -- an accepted checkpoint
  checkpoint_tied : {T : ℕ} → Allowed y.store (Checkpointed T) → refused (Checkpointed T) y.store ≡ 0
      → Tied (record { store = checkpointed T y.store; deeds = Checkpointed T ∷ y.deeds; since = 0 })
  checkpoint_tied (may_checkpoint T l m n) ok =
      record {
        mark = kept_of T y.store;
        past = Checkpointed T ∷ y.deeds;
        alike = alike_checkpointed (may_checkpoint T l m n);
        good = good_checkpoint good_now T l;
        since = marked;
        behind = omega arith;
        within = low_last T (kept_of T y.store);
        lows = refl;
        floored = rw next_above (omega (arith, h.floored, above_least y.store.floor y.store.records));
        capped = omega arith;
        sorted = (list_lists y.store.base y.store.records T).rises;
        lawful = went h.lawful (sym (whole_refuses h.lawful (Checkpointed T)) ∙ sym (refused_alike (Checkpointed T)) ∙ ok);
      }

  pub tied_checkpoint : (T : ℕ) → checkpoint_refusal T y.store ≡ 0
      → Tied (record { store = checkpointed T y.store; deeds = Checkpointed T ∷ y.deeds; since = 0 })
  tied_checkpoint T ok = checkpoint_tied (allowed y.store (Checkpointed T) ok) ok

-- the empty store
pub tied_start : Tied (record { store = empty; deeds = []; since = 0 })
tied_start =
    record {
      mark = [];
      past = [];
      alike =
          record {
            lasts = refl;
            aboves = refl;
            runnings = refl;
            run = λ n. refl;
            own = λ n u. refl;
            values = λ k t i l. refl;
            touches = λ s test q l. refl;
            fresh_a = λ n l. refl;
            fresh_b = λ n l. refl;
          };
      good = none;
      since = marked;
      behind = omega arith;
      within = omega arith;
      lows = refl;
      floored = omega arith;
      capped = omega arith;
      sorted = refl;
      lawful = start;
    }
