-- What accepted calls make of the cells means what they make of the store, and the shape stays good. Assumes nothing.
use Rattle.std.specs.Prelude.{◌≡◌, refl, Bool, true, false, cond, ◌||◌, List, [], ◌∷◌, ◌++◌, ℕ, suc, ◌+◌, ◌-◌, ◌≤◌, eqb, ltb, length, drop, set, replicate, Some, None}
use Rattle.std.proofs.Common.{ap, ap₂, ◌∙◌, add-zero, arith, length-set, length-append, length-drop}
use Rattle.std.proofs.Math.Nat.{min-le_left, min-le_right}
use Rattle.std.proofs.lemmas.List.{length-replicate}
use Rattle.rules.specs.Limits.{most_versions, most_running, most_keys}
use Rattle.rules.specs.declared.Effect.{Effect}
use Rattle.rules.specs.Value.{Value}
use Rattle.rules.specs.Passed.{passed}
use Rattle.rules.specs.Calls.{Begin, Update, Abort, Commit}
use Rattle.slot.specs.declared.Slots.{Slots}
use Rattle.slot.specs.Slots.{slot_at, slot_of, has_number}
use Rattle.slot.specs.Formed.{Formed}
use Rattle.slot.specs.FormedLaws.{formed_opened, formed_noted, formed_closed}
use Rattle.slot.specs.Laws.{first_slot_lem}
use Rattle.slot.specs.Places.{Note, Place, has_key, places_of, slot_rows}
use Rattle.slot.specs.PlaceLaws.{empty_places, opened_places, closed_places, noted_places}
use Rattle.slot.specs.RowLaws.{cases, length_rows}
use Rattle.versions.specs.declared.Version.{Version}
use Rattle.versions.specs.Versions.{Columns, versions_of, kept_from}
use Rattle.versions.specs.Columns.{Spans, Long, column, thinned_column, thinned}
use Rattle.versions.specs.Laws.{long_self, lent_fewer, lent_long, each_long, none_lent, appended_versions, kept_versions, length_column, length_kept, length_versions}
use Rattle.map_store.specs.declared.MapHead.{MapHead}
use Rattle.map_store.specs.Meaning.{MapStore, empty_map, map_refusal, map_answer, map_after, newest_value, version_of, stamp, checkpointed}
use Rattle.map_store.specs.Shape.{empty_head, lengths, Shaped, room_of, meaning}
use Rattle.map_store.specs.Heads.{begun_head, updated_head, aborted_head, rows_in, committed_head, stamped, kept_head}
use Rattle.map_store.specs.ShapeLaws.{shaped_long, lent}
use Rattle.map_store.specs.Laws.{place_none, place_found, decided_number}
use Rattle.map_store.specs.Tests.{abort_unknown, update_unknown, commit_unknown, commit_fits}

-- an empty head means the empty store
pub empty_meaning : (cs : Columns) → meaning empty_head cs ≡ empty_map
empty_meaning cs = ap (λ (ps : List Place). record { low = 0; last = 0; next = 1; places = ps; versions = [] }) empty_places

-- what is written is written over
pub written_long : (newest : ℕ → Value) (n t : ℕ) (rows : List Note) (cs : Columns) → Long cs (stamped newest n t rows cs)
written_long newest n t [] cs = long_self cs
written_long newest n t (r ∷ older) cs =
    each_long (none_lent cs) (λ field cells. set cells (n + length older) (field (version_of newest t r)))
    (λ field cells _. length-set cells (n + length older) (field (version_of newest t r))) (written_long newest n t older cs)

-- rows written behind n used ones are a version each
pub stamped_versions : (newest : ℕ → Value) (t n : ℕ) (rows : List Note) (cs : Columns) → Spans (n + length rows) cs
    → versions_of (n + length rows) (stamped newest n t rows cs) ≡ stamp newest t rows (versions_of n cs)
stamped_versions newest t n [] cs l = rw add-zero
stamped_versions newest t n (r ∷ older) cs l =
    let m = n + length older in
    let z : n + suc (length older) ≡ m + 1 = omega arith in
    rw z
    (appended_versions m (version_of newest t r) (stamped newest n t older cs) (lent_long (lent_fewer l (omega arith)) (written_long newest n t older cs))
    ∙ ap (λ (vs : List Version). version_of newest t r ∷ vs) (stamped_versions newest t n older cs (lent_fewer l (omega arith))))

module _ (h : MapHead) (cs : Columns) (w : Shaped h (lengths cs)) where
  -- other places in the meaning
  abbrev placed : List Place → MapStore
  placed ps = record { low = h.low; last = h.last; next = h.next; places = ps; versions = versions_of h.used cs }

  pub begin_meaning : (t : ℕ) → meaning (begun_head t h) cs ≡ map_after (Begin t) (meaning h cs)
  begin_meaning t =
      ap (λ (ps : List Place). record { low = h.low; last = h.last; next = h.next + 1; places = ps; versions = versions_of h.used cs })
      (opened_places h.slots h.next t w.formed.eight)

  pub begin_shaped : (t : ℕ) → Shaped (begun_head t h) (lengths cs)
  begin_shaped t =
      record {
        limit = w.limit;
        rows = w.rows;
        times = w.times;
        values = w.values;
        marks = w.marks;
        numbered = λ e. omega arith;
        formed = formed_opened h.slots h.next t w.formed;
      }

  -- the same head with other slots
  slots_shaped : (s : Slots) → Formed s → Shaped (record { low = h.low; last = h.last; next = h.next; used = h.used; slots = s }) (lengths cs)
  slots_shaped s f = record { limit = w.limit; rows = w.rows; times = w.times; values = w.values; marks = w.marks; numbered = w.numbered; formed = f }

  -- a slot that is found is one of the eight
  module _ (n : ℕ) where
    below : (i : ℕ) → slot_of h.slots n ≡ Some i → suc i ≤ most_running
    below i g = (first_slot_lem (has_number n) h.slots g).below

    pub abort_meaning : map_refusal (Abort n) (meaning h cs) ≡ 0
        → meaning (aborted_head (slot_of h.slots n) h) cs ≡ map_after (Abort n) (meaning h cs)
    abort_meaning e =
        cases (slot_of h.slots n)
        (λ i g. rw g (ap placed (closed_places h.slots n g)))
        (λ g.
        let z = decided_number (abort_unknown {room = 0} {m = meaning h cs} (place_none h.slots n refl g)) in
        absurd (omega arith))

    pub abort_shaped : Shaped (aborted_head (slot_of h.slots n) h) (lengths cs)
    abort_shaped =
        cases (slot_of h.slots n)
        (λ i g. rw g (slots_shaped _ (formed_closed h.slots i w.formed (below i g))))
        (λ g. rw g w)

    module _ (k : ℕ) (x : Effect) where
      -- an accepted update has a row
      has_row : (b : Bool) → ◌≡◌ {A = ℕ} (cond b 0 8) 0 → b ≡ true
      has_row true e = refl
      has_row false e = absurd (omega arith)

      pub update_meaning : map_refusal (Update n k x) (meaning h cs) ≡ 0
          → meaning (updated_head k x (slot_of h.slots n) h) cs ≡ map_after (Update n k x) (meaning h cs)
      update_meaning e =
          cases (slot_of h.slots n)
          (λ i g.
          let s = slot_at h.slots i in
          let p = place_found h.slots n refl g in
          let test : Bool = has_key k (slot_rows s) || ltb (length (slot_rows s)) most_keys in
          let q : ◌≡◌ {A = ℕ} (cond (eqb k 0) 3 (cond test 0 8)) 0 = rw p at e in
          let r : test ≡ true = has_row test (passed (eqb k 0) 3 (cond test 0 8) (omega arith) q).1 in
          rw (g, p)
          (ap placed
          (noted_places h.slots n g w.formed k x (rw (length_rows s.keys s.values s.marks s.count) at r))))
          (λ g.
          let z = decided_number (update_unknown {room = 0} {m = meaning h cs} (place_none h.slots n refl g) {k = k} {x = x}) in
          absurd (omega arith))

      pub update_shaped : Shaped (updated_head k x (slot_of h.slots n) h) (lengths cs)
      update_shaped =
          cases (slot_of h.slots n)
          (λ i g. rw g (slots_shaped _ (formed_noted h.slots i k _ w.formed (below i g))))
          (λ g. rw g w)

    module _ (t : ℕ) (e : map_answer (room_of (length cs.keys)) (Commit n t) (meaning h cs) ≡ 0) where
      -- an accepted commit has a lent row for each key
      fits : (i : ℕ) → slot_of h.slots n ≡ Some i → h.used + length (rows_in h.slots (Some i)) ≤ room_of (length cs.keys)
      fits i g =
          rw (length_versions h.used cs, place_found h.slots n refl g) at (commit_fits (room_of (length cs.keys)) n t (meaning h cs) e)

      unknown : slot_of h.slots n ≡ None → ⊥
      unknown g =
          let z = decided_number (commit_unknown {room = room_of (length cs.keys)} {m = meaning h cs} (place_none h.slots n refl g) {t = t}) in
          omega arith

      pub commit_meaning : meaning (committed_head t (slot_of h.slots n) h) (stamped (newest_value (meaning h cs)) h.used t (rows_in h.slots (slot_of h.slots n)) cs)
          ≡ map_after (Commit n t) (meaning h cs)
      commit_meaning =
          cases (slot_of h.slots n)
          (λ i g.
          let l = fits i g in
          let r = min-le_right most_versions (length cs.keys) in
          rw (g, place_found h.slots n refl g)
          (ap₂ (λ (ps : List Place) (vers : List Version). record { low = h.low; last = t; next = h.next; places = ps; versions = vers })
          (closed_places h.slots n g)
          (stamped_versions (newest_value (meaning h cs)) t h.used (rows_in h.slots (Some i)) cs
          (record { keys = omega arith; times = omega (arith, w.times); values = omega (arith, w.values); marks = omega (arith, w.marks) }))))
          (λ g. absurd (unknown g))

      pub commit_shaped : Shaped (committed_head t (slot_of h.slots n) h) (lengths (stamped (newest_value (meaning h cs)) h.used t (rows_in h.slots (slot_of h.slots n)) cs))
      commit_shaped =
          cases (slot_of h.slots n)
          (λ i g.
          let l = fits i g in
          let r = min-le_right most_versions (length cs.keys) in
          let m = min-le_left most_versions (length cs.keys) in
          rw g
          (shaped_long (committed_head t (Some i) h) (written_long (newest_value (meaning h cs)) h.used t (rows_in h.slots (Some i)) cs)
          (record {
            limit = omega arith;
            rows = omega arith;
            times = w.times;
            values = w.values;
            marks = w.marks;
            numbered = w.numbered;
            formed = formed_closed h.slots i w.formed (below i g);
          })))
          (λ g. absurd (unknown g))

  module _ (T : ℕ) where
    -- what a checkpoint keeps of the used versions
    abbrev kept : List Version
    kept = kept_from T (versions_of h.used cs)

    -- a column keeps its length
    length_thinned_column : (field : Version → ℕ) (cells : List ℕ) → h.used ≤ length cells → length (thinned_column field kept h.used cells) ≡ length cells
    length_thinned_column field cells l =
        let m = length_kept T h.used cs in
        rw (
          length-append (column field kept) (replicate {A = ℕ} (h.used - length kept) 0 ++ drop h.used cells),
          length-append (replicate {A = ℕ} (h.used - length kept) 0) (drop h.used cells),
          length-replicate {A = ℕ} (h.used - length kept) 0,
          length-drop h.used cells,
          length_column field kept,
        )
        (omega arith)

    pub checkpoint_meaning : meaning (kept_head T h (versions_of h.used cs)) (thinned T h.used cs) ≡ checkpointed T (meaning h cs)
    checkpoint_meaning =
        ap (λ (vers : List Version). record { low = T; last = h.last; next = h.next; places = places_of h.slots; versions = vers })
        (kept_versions T h.used cs (record { count = refl; cells = refl }))

    pub checkpoint_shaped : Shaped (kept_head T h (versions_of h.used cs)) (lengths (thinned T h.used cs))
    checkpoint_shaped =
        let m = length_kept T h.used cs in
        shaped_long (kept_head T h (versions_of h.used cs)) (each_long (lent h cs w) (λ field. thinned_column field kept h.used) length_thinned_column (long_self cs))
        (record {
          limit = omega (arith, w.limit);
          rows = omega (arith, w.rows);
          times = w.times;
          values = w.values;
          marks = w.marks;
          numbered = w.numbered;
          formed = w.formed;
        })
