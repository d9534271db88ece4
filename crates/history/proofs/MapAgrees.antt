-- The map store agrees with the whole journal of the same deeds: each place tells of its transaction what the journal does, versions give the same
-- values and the same conflicts. Assumes nothing.
use Rattle.std.specs.Prelude.{◌≡◌, refl, Bool, ◌&&◌, true, false, cond, not, List, [], ◌∷◌, ℕ, ◌+◌, ◌<◌, ◌≤◌, eqb, length, None}
use Rattle.std.proofs.Common.{ap, ap₂, sym, ◌∙◌, subst, arith, eqb-true, eq-eqb}
use Rattle.std.proofs.lemmas.Bool.{not-true}
use Rattle.rules.specs.Limits.{most_running, numbers_end}
use Rattle.rules.specs.declared.Record.{Record}
use Rattle.rules.specs.Value.{Value}
use Rattle.rules.specs.Kinds.{is_begin, is_assign, is_update, is_commit, is_end, begun, committed, aborted}
use Rattle.rules.specs.Effects.{is_add, effect_of, writes, effects}
use Rattle.rules.specs.Transactions.{any, of, runs, snapshot, wrote, keys_written, running}
use Rattle.rules.specs.Times.{last, above}
use Rattle.rules.specs.Values.{value, read_in}
use Rattle.rules.specs.Lists.{among}
use Rattle.rules.specs.Conflicts.{only_added, met_on, touched, clashes, conflict}
use Rattle.rules.specs.Meeting.{ReadsUpdates, wrote_reads, added_reads, touched_same}
use Rattle.rules.specs.Bools.{split, and_both, or_right, not_both, and_false, and_true}
use Rattle.rules.specs.Calls.{Commit}
use Rattle.rules.specs.Running.{not_ended, running_skip, running_end, runs_skip, touched_skip, touched_open, wrote_among}
use Rattle.slot.specs.Places.{Note, note_keys, Place, free, taken, has_key, makes, note, place_of, open_in, amend, occupied}
use Rattle.slot.specs.RowLaws.{makes_note}
use Rattle.versions.specs.declared.Version.{Version}
use Rattle.versions.specs.Versions.{later, thin}
use Rattle.map_store.specs.Meaning.{MapStore, current, rows_at, updated_place, stamp, map_after}
use Rattle.history.proofs.Kept.{last_low}
use Rattle.rules.proofs.RoomLaws.{fewer}
use Rattle.history.proofs.MapVersions.{ordered, value_stamp, later_stamp, ordered_stamp, ordered_thin, later_thin, value_thin}
use Rattle.history.proofs.MapPlaces.{has_among, note_keys_lem, adds_at, adds_note, firsts_written, adds_written, unexcused_keys, is_free, once, open_other, open_same, open_count, open_length, open_once, amend_other, amend_once, amend_length, amend_taken, amend_free}
use Rattle.versions.specs.Versions as versions

-- what a place says of its transaction
pub data Says (all : List Record) (n : ℕ) : Place → Type 0 where
  idle : runs n all ≡ false → Says all n free
  busy : (s : ℕ) (rows : List Note) → runs n all ≡ true → s ≡ snapshot n all → note_keys rows ≡ keys_written (of n all)
      → ((k : ℕ) (v : Value) → makes k rows v ≡ effects k (of n all) v) → ((k : ℕ) → adds_at k rows ≡ only_added k (of n all)) → Says all n (taken n s rows)

-- a transaction, by its own records, wrote k, and not by adds alone where these are excused
abbrev pub facing : ℕ → Bool → List Record → Bool
facing k adds own = wrote k own && not (adds && only_added k own)

-- the map has the low, last and next number of the journal, a place for each running transaction, its values and its conflicts
pub record Agree (m : MapStore) (low : ℕ) (all : List Record) : Type 0 where
  pub lows : m.low ≡ low
  pub lasts : m.last ≡ last low all
  pub nexts : m.next ≡ above 1 all
  pub says : (n : ℕ) → Says all n (place_of n m.places)
  pub single : once m.places ≡ true
  pub eight : length m.places ≡ most_running
  pub count : occupied m.places ≡ length (running all)
  pub values : (k t : ℕ) → 1 ≤ k → low ≤ t → versions.value_at k t m.versions ≡ value None k t all
  pub touches : (s k : ℕ) (adds : Bool) → low ≤ s → later s k adds m.versions ≡ touched all s (facing k adds) all
  pub orders : ordered m.last m.versions ≡ true

-- what the map needs to know of the history
pub record Sane (low : ℕ) (all : List Record) : Type 0 where
  pub fresh : (n : ℕ) → above 1 all ≤ n → of n all ≡ []
  pub from : (n : ℕ) → runs n all ≡ true → low ≤ snapshot n all
  pub upto : (n : ℕ) → runs n all ≡ true → snapshot n all ≤ last low all
  pub capped : above 1 all ≤ numbers_end

-- only the updates of a transaction tell
facing_reads : (k : ℕ) (adds : Bool) → ReadsUpdates (facing k adds)
facing_reads k adds a b e = ap₂ (λ (w o : Bool). w && not (adds && o)) (wrote_reads k a b e) (added_reads k a b e)

-- rule 3.6 by the keys: who met a transaction on a key that it wrote, wrote it, and not by adds alone where it only added itself
abbrev pub clashing : List Record → ℕ → List Record → Record → Bool
clashing w s full r = is_update r && touched w s (facing r.key (only_added r.key full)) w

clashes_wrote : (w : List Record) (s : ℕ) (full own : List Record) → ((k : ℕ) → wrote k own ≡ true → wrote k full ≡ true)
    → any (clashes w s full) own ≡ any (clashing w s full) own
clashes_wrote w s full [] sub = refl
clashes_wrote w s full (r ∷ own) sub =
    let i = clashes_wrote w s full own (λ k e. sub k (or_right (writes k r) (wrote k own) e)) in
    split (is_update r)
    (λ u.
    let mine : wrote r.key full ≡ true = sub r.key (rw (u, eq-eqb r.key r.key refl)) in
    rw (u, touched_same w s (met_on r.key full) (facing r.key (only_added r.key full)) (λ other. rw mine) w, i))
    (λ u. rw (u, i))

pub conflict_wrote : (n s : ℕ) (w : List Record) → conflict n s w ≡ any (clashing w s (of n w)) (of n w)
conflict_wrote n s w = clashes_wrote w s (of n w) (of n w) (λ k e. e)

-- a place says the same where its transaction's records are the same
says_same : (all now : List Record) (n : ℕ) → of n now ≡ of n all → {p : Place} → Says all n p → Says now n p
says_same all now n e (idle h) = idle (rw e h)
says_same all now n e (busy s rows u v keys g a) =
    busy s rows (rw e u) (rw e v) (rw e keys) (λ k w. rw e (g k w)) (λ k. rw e (a k))

-- an update more in a transaction that only added to j, or did not
added_more : (j : ℕ) (r : Record) (own : List Record) (b : Bool) → b ≡ only_added j own
    → cond (eqb r.key j) (b && is_add (effect_of r)) b ≡ only_added j (r ∷ own)
added_more j r own b h =
    rw h
    (split (eqb r.key j)
    (λ e. split (is_assign r) (λ a. rw (e, a, and_false)) (λ a. rw (e, a) (and_true (only_added j own))))
    (λ e. rw (e, and_false)))

-- a transaction runs exactly if it has a place
says_run : {all : List Record} {n : ℕ} {p : Place} → Says all n p → runs n all ≡ not (is_free p)
says_run (idle h) = h
says_run (busy s rows u v keys g a) = u

module _ (m : MapStore) (low : ℕ) (all : List Record) (h : Agree m low all) (g : Sane low all) where
  -- the next number has no place
  free_next : place_of m.next m.places ≡ free
  free_next = go (place_of m.next m.places) (h.says m.next)
    where
      go : (p : Place) → Says all m.next p → p ≡ free
      go free t = refl
      go (taken n s rows) t = not_both (runs m.next all) (says_run t) (rw (g.fresh m.next (omega (arith, h.nexts))))

  -- begin
  pub agree_begin : (t : ℕ) → length (running all) < most_running
      → Agree (record { low = m.low; last = m.last; next = m.next + 1; places = open_in m.next t m.places; versions = m.versions }) low (begun m.next t ∷ all)
  agree_begin t few =
      let n : ℕ = m.next in
      let f : of n all ≡ [] = g.fresh n (omega (arith, h.nexts)) in
      let room : occupied m.places < length m.places = omega (arith, h.count, h.eight) in
      let r = eq-eqb n n refl in
      let new : Says (begun n t ∷ all) n (place_of n (open_in n t m.places)) =
      rw (open_same n t m.places room free_next) (busy t [] (rw (r, f)) (rw (r, f)) (rw (r, f)) (λ k v. rw (r, f)) (λ k. rw (r, f)))
      in
      record {
        lows = h.lows;
        lasts = h.lasts;
        nexts = omega (arith, h.nexts);
        says =
            λ j.
            split (eqb n j)
            (λ e. subst (λ (i : ℕ). Says (begun n t ∷ all) i (place_of i (open_in n t m.places))) (eqb-true n j e) new)
            (λ e. rw (open_other n t j m.places e) (says_same all (begun n t ∷ all) j (rw e) (h.says j)));
        single = open_once n t m.places free_next h.single;
        eight = rw (open_length n t m.places) h.eight;
        count = rw (open_count n t m.places room, eq-eqb n n refl, f, running_skip (begun n t) refl all all, h.count);
        values = h.values;
        touches = λ s k adds l. rw (touched_skip (begun n t) refl all s (facing k adds) (facing_reads k adds) all) (h.touches s k adds l);
        orders = h.orders;
      }

  -- a running transaction has a place
  some_place : (n : ℕ) → runs n all ≡ true → is_free (place_of n m.places) ≡ false
  some_place n runner = not-true (is_free (place_of n m.places)) (sym (says_run (h.says n)) ∙ runner)

  -- an end frees the place of its transaction; what it does to last and the versions is given
  agree_end : (r : Record) → runs r.transaction all ≡ true → is_begin r ≡ false → is_end r ≡ true → (l : ℕ) (vs : List Version) → l ≡ last low (r ∷ all)
      → ((k t : ℕ) → 1 ≤ k → low ≤ t → versions.value_at k t vs ≡ value None k t (r ∷ all))
      → ((s k : ℕ) (adds : Bool) → low ≤ s → later s k adds vs ≡ touched (r ∷ all) s (facing k adds) (r ∷ all)) → ordered l vs ≡ true
      → Agree (record { low = m.low; last = l; next = m.next; places = amend r.transaction free m.places; versions = vs }) low (r ∷ all)
  agree_end r runner hb he l vs lasts values touches orders =
      let n : ℕ = r.transaction in
      let c = amend_free n m.places h.single (some_place n runner) in
      let x = fewer n all runner in
      record {
        lows = h.lows;
        lasts = lasts;
        nexts = rw hb h.nexts;
        says =
            λ j.
            split (eqb r.transaction j)
            (λ e.
            subst (λ (i : ℕ). Says (r ∷ all) i (place_of i (amend r.transaction free m.places))) (eqb-true r.transaction j e)
            (rw c.0 (idle (rw (eq-eqb r.transaction r.transaction refl, hb, he, and_false)))))
            (λ e.
            rw (amend_other r.transaction free (λ i ps y. refl) j m.places e) (says_same all (r ∷ all) j (rw e) (h.says j)));
        single = amend_once n free (λ i ps y. refl) (λ ps y o. o) m.places h.single;
        eight = rw (amend_length n free m.places) h.eight;
        count = rw (hb, running_end r he all all) (omega (arith, c.1, h.count, x));
        values = values;
        touches = touches;
        orders = orders;
      }

  module _ (n : ℕ) (runner : runs n all ≡ true) where
    -- abort
    pub agree_abort : Agree (record { low = m.low; last = m.last; next = m.next; places = amend n free m.places; versions = m.versions }) low (aborted n ∷ all)
    agree_abort =
        agree_end (aborted n) runner refl refl m.last m.versions h.lasts h.values
        (λ s k adds l. rw (touched_skip (aborted n) refl all s (facing k adds) (facing_reads k adds) all) (h.touches s k adds l)) h.orders

    -- commit
    pub agree_commit : (t : ℕ) → last low all < t → Agree (map_after (Commit n t) m) low (committed n t ∷ all)
    agree_commit t later' = go (place_of n m.places) (h.says n)
      where
        held : ℕ → Value
        held k = versions.value_at k m.last m.versions

        go : (p : Place) → Says all n p
            → Agree (record { low = m.low; last = t; next = m.next; places = amend n free m.places; versions = stamp held t (rows_at p) m.versions }) low (committed n t ∷ all)
        go p (idle u) = not_both (runs n all) runner u
        go p (busy s rows u v keys f a) =
            let lt : m.last < t = omega (arith, h.lasts) in
            let hk : (k : ℕ) → has_key k rows ≡ wrote k (of n all) = λ k. has_among k rows ∙ ap (among k) keys ∙ wrote_among k (of n all) in
            let each = adds_written (λ k. only_added k (of n all)) rows (of n all) keys a in
            rw (firsts_written rows (of n all) keys)
            (agree_end (committed n t) runner refl refl t _ (omega arith)
            (λ k x i l. rw (value_stamp k x t m.last rows m.versions h.orders lt, h.values k x i l, f k (value None k x all)))
            (λ x k adds l.
            rw (
              later_stamp held x k adds t rows m.versions,
              unexcused_keys (λ j. only_added j (of n all)) k adds rows each,
              h.touches x k adds l,
              touched_skip (committed n t) refl all x (facing k adds) (facing_reads k adds) all,
              eq-eqb n n refl,
              hk k,
            ))
            (ordered_stamp held t m.last rows m.versions h.orders (omega arith)))

  -- what a transaction reads is rule 3.5's
  pub current_is : (n k s : ℕ) (rows : List Note) → 1 ≤ k → runs n all ≡ true → s ≡ snapshot n all → ((v : Value) → makes k rows v ≡ effects k (of n all) v)
      → current k s rows m.versions ≡ read_in [] all n (snapshot n all) k
  current_is n k s rows i u v f = rw (v, f (versions.value_at k (snapshot n all) m.versions), h.values k (snapshot n all) i (g.from n u))

  module _ (r : Record) (runner : runs r.transaction all ≡ true) (hb : is_begin r ≡ false) (hc : is_commit r ≡ false)
      (he : is_end r ≡ false) (hu : is_update r ≡ true) where
    -- update
    pub agree_update : Agree
        (record {
          low = m.low;
          last = m.last;
          next = m.next;
          places = amend r.transaction (updated_place r.key (effect_of r) (place_of r.transaction m.places)) m.places;
          versions = m.versions;
        })
        low (r ∷ all)
    agree_update = go (place_of r.transaction m.places) (h.says r.transaction)
      where
        go : (p : Place) → Says all r.transaction p
            → Agree (record { low = m.low; last = m.last; next = m.next; places = amend r.transaction (updated_place r.key (effect_of r) p) m.places; versions = m.versions }) low (r ∷ all)
        go p (idle u) = not_both (runs r.transaction all) runner u
        go p (busy s rows u v keys f b) =
            let n : ℕ = r.transaction in
            let noted : List Note = note r.key (effect_of r) rows in
            let q : Place = taken r.transaction s noted in
            let a = amend_taken r.transaction s noted m.places (some_place r.transaction runner) in
            let other : (i : ℕ) (ps : List Place) → eqb r.transaction i ≡ false → place_of i (q ∷ ps) ≡ place_of i ps = λ i ps y. rw y in
            let z = eq-eqb r.transaction r.transaction refl in
            let has : has_key r.key rows ≡ wrote r.key (of r.transaction all) =
            has_among r.key rows ∙ ap (among r.key) keys ∙ wrote_among r.key (of r.transaction all) in
            let mine : Says (r ∷ all) r.transaction q =
            busy s noted (rw (runs_skip r hb he r.transaction all) u) (rw (z, hb) v)
            (rw (z, hu, note_keys_lem r.key (effect_of r) rows, has) (split (wrote r.key (of r.transaction all)) (λ w. rw w keys) (λ w. rw (w, keys))))
            (λ j w. rw (makes_note j r.key (effect_of r) rows w, z, hu, f j w))
            (λ j. rw (adds_note j r.key (effect_of r) rows, z) (added_more j r (of r.transaction all) (adds_at j rows) (b j)))
            in
            record {
              lows = h.lows;
              lasts = rw hc h.lasts;
              nexts = rw hb h.nexts;
              says =
                  λ j.
                  split (eqb r.transaction j)
                  (λ e. subst (λ (i : ℕ). Says (r ∷ all) i (place_of i (amend r.transaction q m.places))) (eqb-true r.transaction j e) (rw a.0 mine))
                  (λ e. rw (amend_other r.transaction q other j m.places e) (says_same all (r ∷ all) j (rw e) (h.says j)));
              single = amend_once r.transaction q other (λ ps fr o. and_both (is_free (place_of r.transaction ps)) (once ps) fr o) m.places h.single;
              eight = rw (amend_length r.transaction q m.places) h.eight;
              count = rw (hb, running_skip r he all all, a.1) h.count;
              values = λ j t i l. rw hc (h.values j t i l);
              touches = λ t j adds l. rw (hc, touched_open r all t (facing j adds) all (not_ended (of r.transaction all) runner)) (h.touches t j adds l);
              orders = h.orders;
            }

  -- checkpoint
  pub agree_checkpoint : (T : ℕ) → low ≤ T → T ≤ last low all
      → Agree (record { low = T; last = m.last; next = m.next; places = m.places; versions = thin T m.versions m.versions }) T all
  agree_checkpoint T l j =
      record {
        lows = refl;
        lasts = rw (last_low low T all l) (omega (arith, h.lasts));
        nexts = h.nexts;
        says = h.says;
        single = h.single;
        eight = h.eight;
        count = h.count;
        values = λ k t i a. value_thin k T t m.last m.versions h.orders a ∙ h.values k t i (omega arith);
        touches = λ s k adds a. later_thin T s k adds m.versions m.versions a ∙ h.touches s k adds (omega arith);
        orders = ordered_thin T m.versions m.last m.versions h.orders;
      }
