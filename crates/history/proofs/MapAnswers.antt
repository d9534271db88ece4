-- The map store refuses and reads as the whole journal of the same deeds. Assumes nothing.
use Rattle.std.specs.Prelude.{◌≡◌, refl, Bool, true, ◌&&◌, List, [], ◌∷◌, ℕ, ◌≤◌, eqb}
use Rattle.std.proofs.Common.{ap, sym, ◌∙◌, arith, eqb-true}
use Rattle.rules.specs.declared.Record.{Record}
use Rattle.rules.specs.declared.Effect.{Effect}
use Rattle.rules.specs.Kinds.{is_update}
use Rattle.rules.specs.Transactions.{any, of, wrote, keys_written}
use Rattle.rules.specs.Lists.{among}
use Rattle.rules.specs.Conflicts.{only_added, touched}
use Rattle.rules.specs.Calls.{Store, next_of, runs_in, snapshot_in, read_of, held_in, may_write_in, conflict_in, updated, Begin, Update, Abort, Commit, refusal}
use Rattle.rules.specs.Bools.{split, or_right, not_both}
use Rattle.slot.specs.RowLaws.{length_keys}
use Rattle.rules.specs.Running.{wrote_among}
use Rattle.slot.specs.Places.{Note, note_keys, Place, taken, place_of, holds}
use Rattle.versions.specs.declared.Version.{Version}
use Rattle.versions.specs.Versions.{later}
use Rattle.map_store.specs.Meaning.{MapStore, firsts, clash, read_at, abort_refusal, update_refusal, commit_refusal}
use Rattle.history.specs.History.{Deed, Did, Checkpointed}
use Rattle.history.specs.Refusals.{any_of}
use Rattle.history.proofs.KeptAlike.{not_held}
use Rattle.history.proofs.RefusedAlike.{hold_none}
use Rattle.history.proofs.GoodLaws.{above_top, fresh, begun_of, snapshot_within}
use Rattle.history.proofs.Replayed.{replayed, whole, whole_base}
use Rattle.history.proofs.Allowed.{refused, Allowed, may_begin, may_update, may_abort, may_commit, may_checkpoint}
use Rattle.history.proofs.Written.{writing}
use Rattle.history.specs.Lawful.{Lawful, start, went}
use Rattle.history.proofs.Sound.{Sound, sound_last}
use Rattle.history.proofs.Whole.{sound, lawful_allowed}
use Rattle.history.proofs.Maps.{map_refused, map_did, mapped}
use Rattle.history.proofs.MapPlaces.{has_among, adds_at, firsts_written, Adds, none, more, adds_written, holds_not, holds_none}
use Rattle.history.proofs.MapAgrees.{facing, conflict_wrote, Says, idle, busy, Agree, Sane, agree_begin, agree_abort, agree_commit, current_is, agree_update, agree_checkpoint}
use Rattle.map_store.specs.Meaning as map

-- a key that passes
any_among : (p : ℕ → Bool) (k : ℕ) (ks : List ℕ) → among k ks ≡ true → p k ≡ true → any_of p ks ≡ true
any_among p k [] h e = h
any_among p k (j ∷ ks) h e =
    split (eqb j k) (λ x. rw (eqb-true j k x, e)) (λ x. or_right (p j) (any_of p ks) (any_among p k ks (rw x at h) e))

-- the keys that a transaction wrote, and its update records
any_keys : (p : ℕ → Bool) (own : List Record) → any_of p (keys_written own) ≡ any (λ r. is_update r && p r.key) own
any_keys p [] = refl
any_keys p (r ∷ own) =
    split (is_update r)
    (λ u.
    split (wrote r.key own)
    (λ w.
    split (p r.key)
    (λ e. rw (u, w, e) (any_among p r.key (keys_written own) (wrote_among r.key own ∙ w) e))
    (λ e. rw (u, w, e) (any_keys p own)))
    (λ w. rw (u, w, any_keys p own)))
    (λ u. rw u (any_keys p own))

-- a clash is a later version of some key, adds excused where its row adds
clash_keys : (s : ℕ) (rows : List Note) (vs : List Version) (adds p : ℕ → Bool) → Adds adds rows → ((k : ℕ) → later s k (adds k) vs ≡ p k)
    → clash s rows vs ≡ any_of p (note_keys rows)
clash_keys s [] vs adds p none h = refl
clash_keys s (r ∷ rows) vs adds p (more e a) h = rw (e, h r.key, clash_keys s rows vs adds p a h)

module _ (m : MapStore) (h : Store) (a : Agree m h.low h.records) (g : Sane h.low h.records) (one : h.floor ≡ 1) where
  -- the next number
  next_same : next_of h ≡ m.next
  next_same = rw (one, a.nexts) (let z = g.capped in omega arith)

  -- the map's conflict is rule 3.6's
  clash_same : (n s : ℕ) (rows : List Note) → runs_in n h ≡ true → s ≡ snapshot_in n h
      → note_keys rows ≡ keys_written (of n h.records) → ((k : ℕ) → adds_at k rows ≡ only_added k (of n h.records))
      → clash s (firsts rows) m.versions ≡ conflict_in n h
  clash_same n s rows u v keys b =
      let z = snapshot_in n h in
      let own = of n h.records in
      let adds : ℕ → Bool = λ k. only_added k (of n h.records) in
      let met : ℕ → Bool = λ k. touched h.records (snapshot_in n h) (facing k (only_added k (of n h.records))) h.records in
      rw (v, firsts_written rows own keys)
      (clash_keys z rows m.versions adds met (adds_written adds rows own keys b) (λ k. a.touches z k (adds k) (g.from n u))
      ∙ ap (any_of met) keys
      ∙ any_keys met own
      ∙ sym (conflict_wrote n z h.records))

  -- a snapshot, by its place
  snap_told : (T n : ℕ) (p : Place) → Says h.records n p → runs_in n h ≡ true
      → ((s : ℕ) (rows : List Note) → p ≡ taken n s rows → T ≤ s) → T ≤ snapshot_in n h
  snap_told T n p (idle u) r f = not_both (runs_in n h) r u
  snap_told T n p (busy s rows u v keys w b) r f = rw (← v) (f s rows refl)

  -- a place, by its snapshot
  place_told : (T n : ℕ) (p : Place) → Says h.records n p → (s : ℕ) (rows : List Note) → p ≡ taken n s rows
      → (runs_in n h ≡ true → T ≤ snapshot_in n h) → T ≤ s
  place_told T n p (idle u) s rows e f = let z : ◌≡◌ {A = ℕ} 0 1 = cc in absurd (omega arith)
  place_told T n p (busy s2 rows2 u v keys w b) s rows e f = let z : s2 ≡ s = cc in let y = f u in omega (arith, v, z, y)

  -- a place holds T exactly if a running snapshot does
  holds_same : (T : ℕ) → holds T m.places ≡ held_in T h
  holds_same T =
      split (held_in T h)
      (λ x.
      split (holds T m.places)
      (λ y. y ∙ sym x)
      (λ y.
      not_both (held_in T h) x
      (hold_none T h.records h.records
      (λ n u. snap_told T n (place_of n m.places) (a.says n) u (λ s rows e. holds_none T n m.places n s rows y e)))))
      (λ x.
      rw x
      (holds_not T m.places a.single
      (λ n s rows e. place_told T n (place_of n m.places) (a.says n) s rows e
      (λ u. not_held T n h.records h.records (begun_of n h.records u) x u))))

  -- an update's refusal
  update_same : (n k : ℕ) (e : Effect) (p : Place) → Says h.records n p → update_refusal k p ≡ refusal (Update n k e) h
  update_same n k e p (idle u) = rw u
  update_same n k e p (busy s rows u v keys w b) =
      rw (u, has_among k rows, ← length_keys rows, keys, wrote_among k (of n h.records))
      (split (may_write_in n k h) (λ x. rw x) (λ x. rw x))

  -- an abort's refusal
  abort_same : (n : ℕ) (p : Place) → Says h.records n p → abort_refusal p ≡ refusal (Abort n) h
  abort_same n p (idle u) = rw u
  abort_same n p (busy s rows u v keys w b) = rw u

  -- a commit's refusal
  commit_same : (n t : ℕ) (p : Place) → Says h.records n p → commit_refusal t m p ≡ refusal (Commit n t) h
  commit_same n t p (idle u) = rw u
  commit_same n t p (busy s rows u v keys w b) = rw (u, a.lasts, clash_same n s rows u v keys b)

  -- the map refuses what the whole journal would
  pub map_refused_lem : (d : Deed) → map_refused d m ≡ refused d h
  map_refused_lem (Did (Begin t)) = rw (next_same, a.lows, a.lasts, a.count)
  map_refused_lem (Did (Update n k e)) = update_same n k e (place_of n m.places) (a.says n)
  map_refused_lem (Did (Abort n)) = abort_same n (place_of n m.places) (a.says n)
  map_refused_lem (Did (Commit n t)) = commit_same n t (place_of n m.places) (a.says n)
  map_refused_lem (Checkpointed t) = rw (a.lows, a.lasts, holds_same t)

  -- one deed more
  agree_deed : {d : Deed} → Allowed h d → Agree (map_did d m) (replayed d h).low (replayed d h).records
  agree_deed (may_begin t p q u v) = rw next_same (agree_begin m h.low h.records a g t u)
  agree_deed (may_update n k e p q u) =
      let w = writing n k e in
      rw (w.number, w.key, w.effect) at
      (agree_update m h.low h.records a g (updated n k e) (rw w.number p) w.begins w.commits w.ends w.updates)
  agree_deed (may_abort n p) = agree_abort m h.low h.records a g n p
  agree_deed (may_commit n t p q u) = agree_commit m h.low h.records a g n p t q
  agree_deed (may_checkpoint t p q u) = agree_checkpoint m h.low h.records a g t p q

-- lawful deeds give the map what it needs to know
pub sane : (h : Store) → Sound h → Sane h.low h.records
sane h w =
    record {
      fresh = fresh w.good;
      from = w.from;
      upto = λ n u. rw (sound_last h w) (snapshot_within w.good n (begun_of n h.records u)).1;
      capped = above_top 1 (omega arith) w.good;
    }

-- the map agrees with the whole journal
pub agree : {ds : List Deed} → Lawful ds → Agree (mapped ds) (whole ds).low (whole ds).records
agree start =
    record {
      lows = refl;
      lasts = refl;
      nexts = refl;
      says = λ n. idle refl;
      single = refl;
      eight = refl;
      count = refl;
      values = λ k t i l. refl;
      touches = λ s k adds l. refl;
      orders = refl;
    }
agree (went {d = d} {ds = ds} l e) = agree_deed (mapped ds) (whole ds) (agree l) (sane (whole ds) (sound l)) (sound l).one (lawful_allowed l {d = d} e)

-- a read in the map is a read in the whole journal
pub map_read : {ds : List Deed} → Lawful ds → (n k : ℕ) → runs_in n (whole ds) ≡ true → 1 ≤ k
    → map.read_in n k (mapped ds) ≡ read_of n k (whole ds)
map_read {ds} l n k u i = go (place_of n (mapped ds).places) ((agree l).says n)
  where
    go : (p : Place) → Says (whole ds).records n p → read_at k p (mapped ds).versions ≡ read_of n k (whole ds)
    go p (idle x) = not_both (runs_in n (whole ds)) u x
    go p (busy s rows x v keys w b) =
        rw (whole_base ds)
        (current_is (mapped ds) (whole ds).low (whole ds).records (agree l) (sane (whole ds) (sound l)) n k s rows i x v (w k))
