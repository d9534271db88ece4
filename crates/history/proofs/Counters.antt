-- Two writers of one counter, over any sequence and for both stores: neither is refused because of the other, every later value has both totals, and an
-- assign still conflicts. Assumes nothing.
use Rattle.std.specs.Prelude.{◌≡◌, refl, Bool, true, false, cond, not, ◌&&◌, List, [], ◌∷◌, ◌++◌, ◌≢◌, ℕ, ◌+◌, ◌%◌, ◌^◌, ◌<◌, ◌≤◌, max, eqb, leb, ltb, length, Some, None}
use Rattle.std.proofs.Common.{sym, ap, ◌∙◌, add_assoc, zero-add, arith, eqb-true, ne_eqb, le-leb, le-ltb, lt-ltb, leb-true, leb-false, ltb-true}
use Rattle.std.proofs.lemmas.Bool.{false≢true, lt-leb}
use Rattle.std.proofs.Math.Nat.{mod-add-mod}
use Rattle.rules.specs.Value.{Value}
use Rattle.rules.specs.declared.Effect.{Effect}
use Rattle.rules.specs.declared.Effect.TheVariants.{Assign, Add}
use Rattle.rules.specs.Effects.{or_zero, applied}
use Rattle.rules.specs.Values.{row_value}
use Rattle.rules.specs.Lists.{among}
use Rattle.rules.specs.Bools.{split, and_left, and_right, or_left, or_right, or_none_left, or_none_right, not_both, and_false}
use Rattle.rules.specs.Passed.{passed}
use Rattle.rules.specs.Calls.{Begin, Update, Abort, Commit, with_room}
use Rattle.answer.specs.Reply.{Reply, accepted, told}
use Rattle.journal_store.specs.declared.Head.{Head}
use Rattle.journal_store.specs.Shape.{room_of}
use Rattle.journal_store.specs.CallContracts.{Wrote, lookup_decided, shaped_reply, ListedBy}
use Rattle.versions.specs.Versions.{Columns}
use Rattle.map_store.specs.declared.MapHead.{MapHead}
use Rattle.map_store.specs.CallContracts.{lookup_reply, ListedAt}
use Rattle.history.specs.History.{Change, Commitment, History, Deed, Did, Checkpointed, numbers, changes_of, snapshot_of, history, making, value_in, latest, changes, written_by, list_in}
use Rattle.history.specs.Refusals.{distinct_keys, increases, only_adds, meet, changed_after, conflicts, conflicts_with, last_in, refusal_in}
use Rattle.history.specs.Adders.{added_by, total, ShareCounters, Raises, raised_by, written_between, Cause}
use Rattle.history.specs.Lawful.{Lawful, start, went}
use Rattle.history.proofs.Listed.{history_lists}
use Rattle.history.proofs.Told.{ended_among, ended_changes, ended_snapshot}
use Rattle.history.specs.Cells.{Cells, end, Lent, Shows, Reached}
use Rattle.history.specs.MapCells.{MapCells, MapLent, Does, MapReached}
use Rattle.history.proofs.Demands.{accepted_is_lawful, calls_answer, journal_lists_the_history, looks_up_the_history}
use Rattle.history.proofs.MapDemands.{map_accepted_is_lawful, map_answers, map_lists, map_looks_up_the_history}
use Rattle.map_store.specs.Shape as shape

-- transactions that share counters alone met on no key
share_meet : (mine theirs : List Change) → ShareCounters mine theirs → (k : ℕ) → meet k mine theirs ≡ false
share_meet mine theirs h k =
    split (changes k mine)
    (λ a. split (changes k theirs) (λ b. let p = h k a b in rw (a, b, p.0, p.1)) (λ b. rw (a, b)))
    (λ a. rw a)

-- a committed transaction that met nobody changes no conflict
module _ (c : Commitment) (older : List Commitment) (s : ℕ) where
  without_it : (test : List Change → Bool) → test c.changes ≡ false → (newer : List Commitment)
      → changed_after (newer ++ c ∷ older) s test ≡ changed_after (newer ++ older) s test
  without_it test e [] = rw (e, and_false)
  without_it test e (d ∷ newer) = rw (without_it test e newer)

  same_conflicts : (mine : List Change) → ShareCounters mine c.changes → (newer : List Commitment) (own : List Change)
      → conflicts (newer ++ c ∷ older) s mine own ≡ conflicts (newer ++ older) s mine own
  same_conflicts mine h newer [] = refl
  same_conflicts mine h newer (x ∷ own) =
      rw (without_it (meet x.key mine) (share_meet mine c.changes h x.key) newer, same_conflicts mine h newer own)

  -- one that met it is found
  found : (test : List Change → Bool) → s < c.time → test c.changes ≡ true → (newer : List Commitment) → changed_after (newer ++ c ∷ older) s test ≡ true
  found test l e [] = rw (lt-ltb s c.time l, e)
  found test l e (d ∷ newer) = or_right (ltb s d.time && test d.changes) (changed_after (newer ++ c ∷ older) s test) (found test l e newer)

conflict_found : (cs : List Commitment) (s k : ℕ) (mine : List Change) → changed_after cs s (meet k mine) ≡ true → (own : List Change)
    → changes k own ≡ true → conflicts cs s mine own ≡ true
conflict_found cs s k mine h [] e = e
conflict_found cs s k mine h (x ∷ own) e =
    split (eqb x.key k)
    (λ q. or_left (changed_after cs s (meet x.key mine)) (conflicts cs s mine own) (rw (eqb-true x.key k q) h))
    (λ q. or_right (changed_after cs s (meet x.key mine)) (conflicts cs s mine own) (conflict_found cs s k mine h own (rw q at e)))

-- a conflict has a cause: a later commit that met it
record Found (cs : List Commitment) (s : ℕ) (test : List Change → Bool) : Type 0 where
  newer : List Commitment
  other : Commitment
  older : List Commitment
  committed : cs ≡ newer ++ other ∷ older
  later : s < other.time
  passes : test other.changes ≡ true

find : (cs : List Commitment) (s : ℕ) (test : List Change → Bool) → changed_after cs s test ≡ true → Found cs s test
find [] s test e = absurd (false≢true e)
find (c ∷ older) s test e =
    split (ltb s c.time && test c.changes)
    (λ x.
    record {
      newer = [];
      other = c;
      older = older;
      committed = refl;
      later = ltb-true s c.time (and_left (ltb s c.time) (test c.changes) x);
      passes = and_right (ltb s c.time) (test c.changes) x;
    })
    (λ x.
    let f = find older s test (rw x at e) in
    record {
      newer = c ∷ f.newer;
      other = f.other;
      older = f.older;
      committed = ap (λ (cs : List Commitment). c ∷ cs) f.committed;
      later = f.later;
      passes = f.passes;
    })

cause : (n : ℕ) (h : History) (own : List Change) → conflicts h.commitments (snapshot_of n h.runners) (changes_of n h.runners) own ≡ true → Cause n h
cause n h [] e = absurd (false≢true e)
cause n h (x ∷ own) e =
    let s = snapshot_of n h.runners in
    let mine = changes_of n h.runners in
    split (changed_after h.commitments s (meet x.key mine))
    (λ y.
    let f = find h.commitments s (meet x.key mine) y in
    record {
      newer = f.newer;
      other = f.other;
      older = f.older;
      committed = f.committed;
      later = f.later;
      key = x.key;
      met = f.passes;
    })
    (λ y. cause n h own (rw y at e))

-- a commit's number is 11 exactly if it runs, its time is later than last, and it conflicts
record Conflicting (n t : ℕ) (h : History) : Type 0 where
  runs_on : among n (numbers h.runners) ≡ true
  timely : leb t (last_in h) ≡ false
  conflicting : conflicts_with h.commitments n h.runners ≡ true

eleven : (n t : ℕ) (h : History) → refusal_in (Did (Commit n t)) h ≡ 11 → Conflicting n t h
eleven n t h e =
    split (among n (numbers h.runners))
    (λ u.
    split (leb t (last_in h))
    (λ v. let z : ◌≡◌ {A = ℕ} 10 11 = rw (u, v) at e in absurd (omega arith))
    (λ v.
    split (conflicts_with h.commitments n h.runners)
    (λ w. record { runs_on = u; timely = v; conflicting = w })
    (λ w. let z : ◌≡◌ {A = ℕ} 0 11 = rw (u, v, w) at e in absurd (omega arith))))
    (λ u. let z : ◌≡◌ {A = ℕ} 2 11 = rw u at e in absurd (omega arith))

eleven_is : (n t : ℕ) (h : History) → Conflicting n t h → refusal_in (Did (Commit n t)) h ≡ 11
eleven_is n t h c = rw (c.runs_on, c.timely, c.conflicting)

-- room is tested last, so that it changes nothing about 11
room_eleven : (number wanted room : ℕ) → with_room number wanted room ≡ 11 → number ≡ 11
room_eleven number wanted room e =
    split (eqb number 0)
    (λ z.
    split (leb wanted room)
    (λ f. let y : ◌≡◌ {A = ℕ} 0 11 = rw (z, f) at e in absurd (omega arith))
    (λ f. let y : ◌≡◌ {A = ℕ} 12 11 = rw (z, f) at e in absurd (omega arith)))
    (λ z. rw z at e)

-- the number that a store gave a commit
module _ (ds : List Deed) (n t wanted room number : ℕ) (is : number ≡ with_room (refusal_in (Did (Commit n t)) (history ds)) wanted room) where
  refused_eleven : number ≡ 11 → Conflicting n t (history ds)
  refused_eleven e = eleven n t (history ds) (room_eleven _ wanted room (sym is ∙ e))

  -- who gets 11 met somebody
  to_blame : number ≡ 11 → Cause n (history ds)
  to_blame f = cause n (history ds) (changes_of n (history ds).runners) (refused_eleven f).conflicting

  -- who shares a key with a later commit, and one of them assigned it, gets 11
  still_refused : (newer : List Commitment) (c : Commitment) (older : List Commitment) → (history ds).commitments ≡ newer ++ c ∷ older
      → snapshot_of n (history ds).runners < c.time → among n (numbers (history ds).runners) ≡ true → last_in (history ds) < t → (k : ℕ)
      → meet k (changes_of n (history ds).runners) c.changes ≡ true → number ≡ 11
  still_refused newer c older e l u later k m =
      let rs = (history ds).runners in
      let mine = changes_of n (history ds).runners in
      let both = and_left (changes k mine && changes k c.changes) (not (only_adds k mine && only_adds k c.changes)) m in
      let there = found c older (snapshot_of n rs) (meet k mine) l m newer in
      let conflict : conflicts_with (history ds).commitments n rs ≡ true =
      rw e (conflict_found (newer ++ c ∷ older) (snapshot_of n rs) k mine there mine (and_left (changes k mine) (changes k c.changes) both))
      in
      is ∙ rw (eleven_is n t (history ds) (record { runs_on = u; timely = lt-leb t (last_in (history ds)) later; conflicting = conflict }))

-- commit times of a lawful history fall from the newest on
data Falls : List Commitment → Type 0 where
  none : Falls []
  more : {c : Commitment} {older : List Commitment} → latest 0 older < c.time → Falls older → Falls (c ∷ older)

-- some transactions committed after u
data After (u : ℕ) : List Commitment → Type 0 where
  none : After u []
  more : {c : Commitment} {older : List Commitment} → u < c.time → After u older → After u (c ∷ older)

latest_up : (low : ℕ) (cs : List Commitment) → latest 0 cs ≤ latest low cs
latest_up low [] = omega arith
latest_up low (c ∷ cs) = omega (arith, latest_up low cs)

falls : {ds : List Deed} → Lawful ds → Falls (history ds).commitments
falls start = none
falls (went {d = Did (Begin t)} l e) = falls l
falls (went {d = Did (Update n k x)} l e) = falls l
falls (went {d = Did (Abort n)} l e) = falls l
falls (went {d = Did (Commit n t)} {ds = ds} l e) =
    let h = history ds in
    let a = passed (not (among n (numbers h.runners))) 2 _ (omega arith) e in
    let b = passed (leb t (last_in h)) 10 _ (omega arith) a.1 in
    more {c = record { time = t; changes = changes_of n h.runners }} {older = h.commitments} (omega (arith, leb-false t (last_in h) b.0, latest_up h.low h.commitments)) (falls l)
falls (went {d = Checkpointed T} l e) = falls l

latest_in : (newer : List Commitment) (c : Commitment) (older : List Commitment) → c.time ≤ latest 0 (newer ++ c ∷ older)
latest_in [] c older = omega arith
latest_in (d ∷ newer) c older = omega (arith, latest_in newer c older)

falls_after : {u : ℕ} (newer : List Commitment) (c : Commitment) (older : List Commitment) → Falls (newer ++ c ∷ older) → u < c.time → After u newer
falls_after [] c older f l = none
falls_after (d ∷ newer) c older (more g f) l = more {c = d} {older = newer} (omega (arith, latest_in newer c older)) (falls_after newer c older f l)

-- what adds alone make of a value: the total more
module _ (k : ℕ) where
  unchanged : (cs : List Change) (v : Value) → changes k cs ≡ false → (making k cs v ≡ v) × (total k cs ≡ 0)
  unchanged [] v h = (refl, refl)
  unchanged (c ∷ cs) v h =
      let i = unchanged cs v (or_none_right (eqb c.key k) (changes k cs) h) in
      let e = or_none_left (eqb c.key k) (changes k cs) h in
      (rw (e, i.0), rw (e, i.1))

  -- an add after adds
  sum : (v x y : ℕ) → raised_by (raised_by v x) y ≡ raised_by v (x + y)
  sum v x y = mod-add-mod (v + x) (2 ^ 32) y ∙ ap (λ (n : ℕ). n % 2 ^ 32) (add_assoc v x y)

  adds_up : (cs : List Change) (v : Value) → changes k cs ≡ true → only_adds k cs ≡ true → making k cs v ≡ Some (raised_by (or_zero v) (total k cs))
  adds_up [] v h o = not_both false h refl
  adds_up (c ∷ cs) v h o =
      let rest = and_right (cond (eqb c.key k) (increases c.effect) true) (only_adds k cs) o in
      split (eqb c.key k)
      (λ e.
      let more : increases c.effect ≡ true = rw e at (and_left (cond (eqb c.key k) (increases c.effect) true) (only_adds k cs) o) in
      rw (e, added c.effect more (making k cs v))
      (split (changes k cs)
      (λ x. rw (adds_up cs v x rest) (ap Some (sum (or_zero v) (total k cs) (added_by c.effect))))
      (λ x.
      let u = unchanged cs v x in
      rw (u.0, u.1) (ap (λ (n : ℕ). Some (raised_by (or_zero v) n)) (sym (zero-add (added_by c.effect)))))))
      (λ e. rw e (adds_up cs v (rw e at h) rest))
    where
      added : (e : Effect) → increases e ≡ true → (w : Value) → applied e w ≡ Some (raised_by (or_zero w) (added_by e))
      added (Assign x) h w = not_both false h refl
      added (Add x) h w = refl

  -- a value passes over transactions that did not write the key
  passes_over : (newer rest : List Commitment) (t : ℕ) → written_by newer t k ≡ false → value_in (newer ++ rest) t k ≡ value_in rest t k
  passes_over [] rest t h = refl
  passes_over (c ∷ newer) rest t h =
      let i = passes_over newer rest t (or_none_right (leb c.time t && changes k c.changes) (written_by newer t k) h) in
      let q = or_none_left (leb c.time t && changes k c.changes) (written_by newer t k) h in
      split (leb c.time t) (λ l. rw (l, i, (unchanged c.changes (value_in rest t k) (rw l at q)).0)) (λ l. rw (l, i))

  -- so it stands from u to t where nobody wrote it in between
  stands : (cs : List Commitment) (u t : ℕ) → u ≤ t → written_between cs u t k ≡ false → value_in cs t k ≡ value_in cs u k
  stands [] u t l h = refl
  stands (c ∷ cs) u t l h =
      let i = stands cs u t l (or_none_right (ltb u c.time && (leb c.time t && changes k c.changes)) (written_between cs u t k) h) in
      let q = or_none_left (ltb u c.time && (leb c.time t && changes k c.changes)) (written_between cs u t k) h in
      split (leb c.time u)
      (λ x. let y = leb-true c.time u x in rw (x, le-leb c.time t (omega arith), i))
      (λ x.
      let w : (leb c.time t && changes k c.changes) ≡ false = rw (lt-ltb u c.time (leb-false c.time u x)) at q in
      split (leb c.time t)
      (λ y. rw (x, y, i, (unchanged c.changes (value_in cs u k) (rw y at w)).0))
      (λ y. rw (x, y, i)))

  -- after u: there is nothing at u, and whoever wrote it at or before t wrote it between
  early : {u : ℕ} {newer : List Commitment} → After u newer → (rest : List Commitment) → value_in (newer ++ rest) u k ≡ value_in rest u k
  early none rest = refl
  early (more {c = c} l a) rest = rw (lt-leb c.time _ l, early a rest)

  between_by : {u : ℕ} {newer : List Commitment} → After u newer → (t : ℕ) → written_between newer u t k ≡ written_by newer t k
  between_by none t = refl
  between_by {u} (more {c = c} l a) t = rw (lt-ltb u c.time l, between_by a t)

  -- Two transactions that only added to k, and no other that wrote it between them or after them up to t: the value at t is what stood before the first,
  -- absent as 0, plus both totals.
  both_totals : (newer : List Commitment) (second : Commitment) (between : List Commitment) (first : Commitment) (older : List Commitment)
      → Falls (newer ++ second ∷ (between ++ first ∷ older)) → (u t : ℕ) → u < first.time → second.time ≤ t
      → written_between newer u t k ≡ false → written_between between u t k ≡ false → written_between older u t k ≡ false → Raises k first → Raises k second
      → value_in (newer ++ second ∷ (between ++ first ∷ older)) t k
      ≡ Some (raised_by (or_zero (value_in (newer ++ second ∷ (between ++ first ∷ older)) u k)) (total k first.changes + total k second.changes))
  both_totals newer second between first older fall u t l m quiet calm still f s =
      let inner = below newer fall in
      let order : first.time < second.time = omega (arith, inner.0, latest_in between first older) in
      let young = falls_after {u = u} newer second (between ++ first ∷ older) fall (omega (arith, order)) in
      let mid = falls_after {u = u} between first older inner.1 l in
      let before : value_in (newer ++ second ∷ (between ++ first ∷ older)) u k ≡ value_in older u k =
      rw (
        early young (second ∷ (between ++ first ∷ older)),
        lt-leb second.time u (omega (arith, order)),
        early mid (first ∷ older),
        lt-leb first.time u l,
      )
      in
      rw (
        before,
        ← stands older u t (omega (arith, order)) still,
        passes_over newer (second ∷ (between ++ first ∷ older)) t (sym (between_by young t) ∙ quiet),
        le-leb second.time t m,
        passes_over between (first ∷ older) t (sym (between_by mid t) ∙ calm),
        le-leb first.time t (omega (arith, order)),
        adds_up first.changes (value_in older t k) f.0 f.1,
      )
      (adds_up second.changes _ s.0 s.1 ∙ ap Some (sum (or_zero (value_in older t k)) (total k first.changes) (total k second.changes)))
    where
      below : (newer : List Commitment) → Falls (newer ++ second ∷ (between ++ first ∷ older))
          → (latest 0 (between ++ first ∷ older) < second.time) × Falls (between ++ first ∷ older)
      below [] (more g f) = (g, f)
      below (d ∷ newer) (more g f) = below newer f

-- of two that ran together and share counters alone one committed: the other conflicts exactly if it did before
module _ (ds : List Deed) (n m t u : ℕ) (d : n ≢ m)
    (h : ShareCounters (changes_of n (history ds).runners) (changes_of m (history ds).runners)) where
  other : eqb m n ≡ false
  other = ne_eqb m n (λ q. d (sym q))

  runs_alike : among n (numbers (history (Did (Commit m u) ∷ ds)).runners) ≡ among n (numbers (history ds).runners)
  runs_alike = ended_among m n other (history ds).runners

  conflicts_alike : conflicts_with (history (Did (Commit m u) ∷ ds)).commitments n (history (Did (Commit m u) ∷ ds)).runners
      ≡ conflicts_with (history ds).commitments n (history ds).runners
  conflicts_alike =
      let rs = (history ds).runners in
      let mine = changes_of n (history ds).runners in
      rw (ended_changes m n other rs, ended_snapshot m n other rs)
      (same_conflicts (record { time = u; changes = changes_of m rs }) (history ds).commitments (snapshot_of n rs) mine h [] mine)

  module _ (wanted room number : ℕ) (is : number ≡ with_room (refusal_in (Did (Commit n t)) (history (Did (Commit m u) ∷ ds))) wanted room) where
    not_to_blame : number ≡ 11 → refusal_in (Did (Commit n t)) (history ds) ≡ 11
    not_to_blame e =
        let g = refused_eleven (Did (Commit m u) ∷ ds) n t wanted room number is e in
        let z = leb-false t (max (last_in (history ds)) u) g.timely in
        eleven_is n t (history ds)
        (record {
          runs_on = sym runs_alike ∙ g.runs_on;
          timely = lt-leb t (last_in (history ds)) (omega arith);
          conflicting = sym conflicts_alike ∙ g.conflicting;
        })

    -- so it is accepted too, at a later time and where there is room
    both_accepted : among n (numbers (history ds).runners) ≡ true → conflicts_with (history ds).commitments n (history ds).runners ≡ false
        → last_in (history ds) < t → u < t → number ≢ 12 → number ≡ 0
    both_accepted runs_on clear later after no_room =
        let z : leb t (max (last_in (history ds)) u) ≡ false = lt-leb t (max (last_in (history ds)) u) (omega arith) in
        let zero : refusal_in (Did (Commit n t)) (history (Did (Commit m u) ∷ ds)) ≡ 0 = rw (runs_alike ∙ runs_on, z, conflicts_alike ∙ clear) in
        split (leb wanted room)
        (λ f. is ∙ rw (zero, f))
        (λ f. absurd (no_room (is ∙ rw (zero, f))))

-- the same of the history of lawful deeds
both_in : (newer : List Commitment) (second : Commitment) (between : List Commitment) (first : Commitment) (older : List Commitment) (ds : List Deed) → Lawful ds
    → (history ds).commitments ≡ newer ++ second ∷ (between ++ first ∷ older) → (k u t : ℕ) → u < first.time → second.time ≤ t
    → written_between newer u t k ≡ false → written_between between u t k ≡ false → written_between older u t k ≡ false → Raises k first → Raises k second
    → value_in (history ds).commitments t k
    ≡ Some (raised_by (or_zero (value_in (history ds).commitments u k)) (total k first.changes + total k second.changes))
both_in newer second between first older ds ok e k u t p q quiet calm still f s =
    rw e (both_totals k newer second between first older (rw e at (falls ok)) u t p q quiet calm still f s)

-- THE JOURNAL STORE
module _ {room : ℕ → Type 0} {ds : List Deed} {since : ℕ} {x : Cells} (r : Reached room ds since x) (keys values journal : List ℕ)
    (l : Lent x (end x) keys values journal) where
  -- A commit that gets 11 met a transaction that committed later than its snapshot: both changed a key, and not both by adds alone.
  pub eleven_has_a_cause : (n t : ℕ) (a : Reply) (head : Head) (journal' : List ℕ)
      → Wrote (Commit n t) x.head keys values journal a head journal'
      → a.number ≡ 11 → Cause n (history ds)
  eleven_has_a_cause n t a head journal' w =
      to_blame ds n t (x.head.journal.used + 1) (room_of (length journal)) a.number
      (ap (λ (q : Reply). q.number) (calls_answer r keys values journal l (Commit n t) a head journal' w))

  -- One that shares a key with a later commit gets it, if one of the two did not only add to it.
  pub an_assign_conflicts : (newer : List Commitment) (c : Commitment) (older : List Commitment) → (history ds).commitments ≡ newer ++ c ∷ older → (n t : ℕ)
      → among n (numbers (history ds).runners) ≡ true → snapshot_of n (history ds).runners < c.time → last_in (history ds) < t → (k : ℕ)
      → changes k (changes_of n (history ds).runners) ≡ true → changes k c.changes ≡ true
      → (only_adds k (changes_of n (history ds).runners) && only_adds k c.changes) ≡ false → (a : Reply) (head : Head) (journal' : List ℕ)
      → Wrote (Commit n t) x.head keys values journal a head journal' → a.number ≡ 11
  an_assign_conflicts newer c older e n t u s later k mine theirs one a head journal' w =
      still_refused ds n t (x.head.journal.used + 1) (room_of (length journal)) a.number
      (ap (λ (q : Reply). q.number) (calls_answer r keys values journal l (Commit n t) a head journal' w))
      newer c older e s u later k (rw (mine, theirs, one))

  -- Of two that only added to a key both totals stand in its value at t, on top of what stood at a time u before the first commit, where no other wrote it from u to t.
  pub both_totals_are_looked_up : (newer : List Commitment) (second : Commitment) (between : List Commitment) (first : Commitment) (older : List Commitment)
      → (history ds).commitments ≡ newer ++ second ∷ (between ++ first ∷ older) → (k u t : ℕ) → 1 ≤ k → u < first.time → second.time ≤ t
      → (history ds).low ≤ t → t ≤ last_in (history ds) → written_between newer u t k ≡ false → written_between between u t k ≡ false
      → written_between older u t k ≡ false → Raises k first → Raises k second
      → shaped_reply x.head keys values journal (lookup_decided k t)
      ≡ accepted (Some (raised_by (or_zero (value_in (history ds).commitments u k)) (total k first.changes + total k second.changes)))
  both_totals_are_looked_up newer second between first older e k u t i p q from upto quiet calm still f s =
      let v = both_in newer second between first older ds (accepted_is_lawful r) e k u t p q quiet calm still f s in
      looks_up_the_history r keys values journal l k t ∙ rw (v, ne_eqb k 0 (omega arith), le-ltb t (history ds).low from, le-ltb (last_in (history ds)) t upto)

  pub both_totals_are_listed : (newer : List Commitment) (second : Commitment) (between : List Commitment) (first : Commitment) (older : List Commitment)
      → (history ds).commitments ≡ newer ++ second ∷ (between ++ first ∷ older) → (k u t : ℕ) → 1 ≤ k → u < first.time → second.time ≤ t
      → (history ds).low ≤ t → t ≤ last_in (history ds) → written_between newer u t k ≡ false → written_between between u t k ≡ false
      → written_between older u t k ≡ false → Raises k first → Raises k second
      → (listed contents : List ℕ) → length listed ≡ length contents → length (list_in (history ds).commitments t) ≤ length listed
      → (a : Reply) (listed' contents' : List ℕ) → ListedBy x.head keys values journal t listed contents a listed' contents'
      → Shows (list_in (history ds).commitments t) 0 listed contents a listed' contents'
      × (row_value (list_in (history ds).commitments t) k
      ≡ Some (raised_by (or_zero (value_in (history ds).commitments u k)) (total k first.changes + total k second.changes)))
  both_totals_are_listed newer second between first older e k u t i p q from upto quiet calm still f s listed contents paired fits a listed' contents' w = (
    journal_lists_the_history r keys values journal l t from upto listed contents paired fits a listed' contents' w,
    (history_lists (history ds).commitments t).values k i ∙ both_in newer second between first older ds (accepted_is_lawful r) e k u t p q quiet calm still f s,
  )

-- Of two that ran together and share counters alone, one committed: the other's commit gets 11 only if it would have got it before, and where it would not, at a time later
-- than both and with room, it is accepted too.
module _ {room : ℕ → Type 0} {ds : List Deed} {since : ℕ} {x : Cells} (n m t u : ℕ) (r : Reached room (Did (Commit m u) ∷ ds) since x)
    (keys values journal : List ℕ) (l : Lent x (end x) keys values journal) (d : n ≢ m)
    (h : ShareCounters (changes_of n (history ds).runners) (changes_of m (history ds).runners)) (a : Reply) (head : Head) (journal' : List ℕ)
    (w : Wrote (Commit n t) x.head keys values journal a head journal') where
  answer_is : a ≡ told (with_room (refusal_in (Did (Commit n t)) (history (Did (Commit m u) ∷ ds))) (x.head.journal.used + 1) (room_of (length journal))) None
  answer_is = calls_answer r keys values journal l (Commit n t) a head journal' w

  pub a_counter_is_shared : a.number ≡ 11 → refusal_in (Did (Commit n t)) (history ds) ≡ 11
  a_counter_is_shared = not_to_blame ds n m t u d h (x.head.journal.used + 1) (room_of (length journal)) a.number (ap (λ (q : Reply). q.number) answer_is)

  pub both_commit : among n (numbers (history ds).runners) ≡ true → conflicts_with (history ds).commitments n (history ds).runners ≡ false
      → last_in (history ds) < t → u < t → a.number ≢ 12 → a ≡ accepted None
  both_commit runs_on clear later after no_room =
      let number_is = ap (λ (q : Reply). q.number) answer_is in
      let z = both_accepted ds n m t u d h (x.head.journal.used + 1) (room_of (length journal)) a.number number_is runs_on clear later after no_room in
      answer_is ∙ ap (λ (i : ℕ). told i None) (sym number_is ∙ z)

-- THE MAP STORE
module _ {ds : List Deed} {x : MapCells} (r : MapReached ds x) (cs : Columns) (l : MapLent x cs) where
  -- A commit that gets 11 met a transaction that committed later than its snapshot: both changed a key, and not both by adds alone.
  pub map_eleven_has_a_cause : (n t : ℕ) (a : Reply) (head : MapHead) {cs' : Columns}
      → Does x.head cs a head (Did (Commit n t)) cs'
      → a.number ≡ 11 → Cause n (history ds)
  map_eleven_has_a_cause n t a head w =
      to_blame ds n t (x.head.used + length (distinct_keys (changes_of n (history ds).runners))) (shape.room_of (length cs.keys)) a.number
      (ap (λ (q : Reply). q.number) (map_answers r cs l a head w))

  -- One that shares a key with a later commit gets it, if one of the two did not only add to it.
  pub map_an_assign_conflicts : (newer : List Commitment) (c : Commitment) (older : List Commitment) → (history ds).commitments ≡ newer ++ c ∷ older → (n t : ℕ)
      → among n (numbers (history ds).runners) ≡ true → snapshot_of n (history ds).runners < c.time → last_in (history ds) < t → (k : ℕ)
      → changes k (changes_of n (history ds).runners) ≡ true → changes k c.changes ≡ true
      → (only_adds k (changes_of n (history ds).runners) && only_adds k c.changes) ≡ false → (a : Reply) (head : MapHead) {cs' : Columns}
      → Does x.head cs a head (Did (Commit n t)) cs' → a.number ≡ 11
  map_an_assign_conflicts newer c older e n t u s later k mine theirs one a head w =
      still_refused ds n t (x.head.used + length (distinct_keys (changes_of n (history ds).runners))) (shape.room_of (length cs.keys)) a.number
      (ap (λ (q : Reply). q.number) (map_answers r cs l a head w))
      newer c older e s u later k (rw (mine, theirs, one))

  -- Of two that only added to a key both totals stand in its value at t, on top of what stood at a time u before the first commit, where no other wrote it from u to t.
  pub map_both_totals_are_looked_up : (newer : List Commitment) (second : Commitment) (between : List Commitment) (first : Commitment) (older : List Commitment)
      → (history ds).commitments ≡ newer ++ second ∷ (between ++ first ∷ older) → (k u t : ℕ) → 1 ≤ k → u < first.time → second.time ≤ t
      → (history ds).low ≤ t → t ≤ last_in (history ds) → written_between newer u t k ≡ false → written_between between u t k ≡ false
      → written_between older u t k ≡ false → Raises k first → Raises k second
      → lookup_reply k t x.head cs
      ≡ accepted (Some (raised_by (or_zero (value_in (history ds).commitments u k)) (total k first.changes + total k second.changes)))
  map_both_totals_are_looked_up newer second between first older e k u t i p q from upto quiet calm still f s =
      let v = both_in newer second between first older ds (map_accepted_is_lawful r) e k u t p q quiet calm still f s in
      map_looks_up_the_history r cs l k t ∙ rw (v, ne_eqb k 0 (omega arith), le-ltb t (history ds).low from, le-ltb (last_in (history ds)) t upto)

  pub map_both_totals_are_listed : (newer : List Commitment) (second : Commitment) (between : List Commitment) (first : Commitment) (older : List Commitment)
      → (history ds).commitments ≡ newer ++ second ∷ (between ++ first ∷ older) → (k u t : ℕ) → 1 ≤ k → u < first.time → second.time ≤ t
      → (history ds).low ≤ t → t ≤ last_in (history ds) → written_between newer u t k ≡ false → written_between between u t k ≡ false
      → written_between older u t k ≡ false → Raises k first → Raises k second
      → (listed contents : List ℕ) → length listed ≡ length contents → length (list_in (history ds).commitments t) ≤ length listed
      → (a : Reply) (listed' contents' : List ℕ) → ListedAt t x.head cs listed contents a listed' contents'
      → Shows (list_in (history ds).commitments t) 0 listed contents a listed' contents'
      × (row_value (list_in (history ds).commitments t) k
      ≡ Some (raised_by (or_zero (value_in (history ds).commitments u k)) (total k first.changes + total k second.changes)))
  map_both_totals_are_listed newer second between first older e k u t i p q from upto quiet calm still f s listed contents paired fits a listed' contents' w = (
    map_lists r cs l t from upto listed contents paired fits a listed' contents' w,
    (history_lists (history ds).commitments t).values k i ∙ both_in newer second between first older ds (map_accepted_is_lawful r) e k u t p q quiet calm still f s,
  )

module _ {ds : List Deed} {x : MapCells} (n m t u : ℕ) (r : MapReached (Did (Commit m u) ∷ ds) x) (cs : Columns) (l : MapLent x cs) (d : n ≢ m)
    (h : ShareCounters (changes_of n (history ds).runners) (changes_of m (history ds).runners)) (a : Reply) (head : MapHead) {cs' : Columns}
    (w : Does x.head cs a head (Did (Commit n t)) cs') where
  abbrev rows_wanted : ℕ
  rows_wanted = x.head.used + length (distinct_keys (changes_of n (history (Did (Commit m u) ∷ ds)).runners))

  map_answer_is : a ≡ told (with_room (refusal_in (Did (Commit n t)) (history (Did (Commit m u) ∷ ds))) rows_wanted (shape.room_of (length cs.keys))) None
  map_answer_is = map_answers r cs l a head w

  pub a_map_counter_is_shared : a.number ≡ 11 → refusal_in (Did (Commit n t)) (history ds) ≡ 11
  a_map_counter_is_shared = not_to_blame ds n m t u d h rows_wanted (shape.room_of (length cs.keys)) a.number (ap (λ (q : Reply). q.number) map_answer_is)

  pub both_commit_in_the_map : among n (numbers (history ds).runners) ≡ true → conflicts_with (history ds).commitments n (history ds).runners ≡ false
      → last_in (history ds) < t → u < t → a.number ≢ 12 → a ≡ accepted None
  both_commit_in_the_map runs_on clear later after no_room =
      let number_is = ap (λ (q : Reply). q.number) map_answer_is in
      let z = both_accepted ds n m t u d h rows_wanted (shape.room_of (length cs.keys)) a.number number_is runs_on clear later after no_room in
      map_answer_is ∙ ap (λ (i : ℕ). told i None) (sym number_is ∙ z)
