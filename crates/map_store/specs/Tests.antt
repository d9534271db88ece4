-- What the tests of a call, made in section 6's order, let it answer: on any store, one law for each way out. Assumes nothing.
use Rattle.std.specs.Prelude.{◌≡◌, Bool, true, false, cond, not, ◌||◌, List, ℕ, ◌+◌, ◌<◌, ◌≤◌, leb, ltb, length}
use Rattle.std.proofs.Common.{sym, ap, ◌∙◌, arith, lt-ltb, le-ltb, le-leb, eq-eqb, ne_eqb, leb-false}
use Rattle.std.proofs.lemmas.Bool.{lt-leb, not-true, not-false}
use Rattle.rules.specs.Limits.{most_running, most_keys, numbers_end}
use Rattle.rules.specs.Value.{Value}
use Rattle.rules.specs.declared.Effect.{Effect}
use Rattle.rules.specs.Passed.{passed, fitting}
use Rattle.rules.specs.Calls.{Call, Begin, Update, Abort, Commit, with_room}
use Rattle.answer.specs.Reply.{accepted, told}
use Rattle.slot.specs.Places.{Note, free, taken, has_key, place_of, occupied, holds}
use Rattle.versions.specs.Versions.{list_at}
use Rattle.map_store.specs.Meaning.{MapStore, firsts, clash, rows_at, gives, time_refusal, map_refusal, map_answer, read_refusal, lookup_refusal, list_answer, checkpoint_refusal}
use Rattle.map_store.specs.CallContracts.{Decided}

-- the number that a call gets says its reply
pub say : (n number : ℕ) (v : Value) → number ≡ n → told n v ≡ told number v
say n number v e = sym (ap (λ (x : ℕ). told x v) e)

-- an accepted call says its value too
pub say_value : (number : ℕ) (v w : Value) → v ≡ w → number ≡ 0 → accepted v ≡ told number w
say_value number v w e z = rw (e, z)

module _ (m : MapStore) (t : ℕ) where
  module _ (others : ℕ) where
    pub time_old : t < m.low → time_refusal t m others ≡ 4
    time_old a = rw (lt-ltb t m.low a)

    pub time_future : m.low ≤ t → m.last < t → time_refusal t m others ≡ 5
    time_future a b = rw (le-ltb t m.low a, lt-ltb m.last t b)

    pub time_inside : m.low ≤ t → t ≤ m.last → time_refusal t m others ≡ others
    time_inside a b = rw (le-ltb t m.low a, le-ltb m.last t b)

  module _ (a : m.low ≤ t) (b : t ≤ m.last) where
    module _ (x : Bool) (e : x ≡ holds t m.places) where
      pub checkpoint_held : x ≡ true → checkpoint_refusal t m ≡ 9
      checkpoint_held f = time_inside _ a b ∙ rw (sym e ∙ f)

      pub checkpoint_done : x ≡ false → checkpoint_refusal t m ≡ 0
      checkpoint_done f = time_inside _ a b ∙ rw (sym e ∙ f)

    pub list_timely : (room : ℕ) → list_answer room t m ≡ with_room 0 (length (list_at m.versions t)) room
    list_timely room = rw (time_inside 0 a b)

  pub list_old : (room : ℕ) → t < m.low → list_answer room t m ≡ 4
  list_old room a = rw (time_old 0 a)

  pub list_future : (room : ℕ) → m.low ≤ t → m.last < t → list_answer room t m ≡ 5
  list_future room a b = rw (time_future 0 a b)

  module _ (k : ℕ) where
    pub lookup_key : k ≡ 0 → lookup_refusal k t m ≡ 3
    lookup_key z = rw (eq-eqb k 0 z)

    pub lookup_time : (k ≡ 0 → ⊥) → lookup_refusal k t m ≡ time_refusal t m 0
    lookup_time z = rw (ne_eqb k 0 z)

  -- an accepted begin has a number to give
  pub begin_numbered : map_refusal (Begin t) m ≡ 0 → m.next < numbers_end
  begin_numbered e =
      let numbers : ℕ = cond (leb numbers_end m.next) 7 0 in
      let many : ℕ = cond (leb most_running (occupied m.places)) 6 numbers in
      let later : ℕ = cond (ltb m.last t) 5 many in
      let e1 : later ≡ 0 = (passed (ltb t m.low) 4 later (omega arith) e).1 in
      let e2 : many ≡ 0 = (passed (ltb m.last t) 5 many (omega arith) e1).1 in
      let e3 : numbers ≡ 0 = (passed (leb most_running (occupied m.places)) 6 numbers (omega arith) e2).1 in
      leb-false numbers_end m.next (passed (leb numbers_end m.next) 7 0 (omega arith) e3).0

module _ (m : MapStore) (n k : ℕ) where
  pub read_unknown : place_of n m.places ≡ free → read_refusal n k m ≡ 2
  read_unknown p = rw p

  module _ (x s : ℕ) (rows : List Note) (p : place_of n m.places ≡ taken x s rows) where
    pub read_key : k ≡ 0 → read_refusal n k m ≡ 3
    read_key z = rw (p, eq-eqb k 0 z)

    pub read_done : (k ≡ 0 → ⊥) → read_refusal n k m ≡ 0
    read_done z = rw (p, ne_eqb k 0 z)

module _ {room : ℕ} {m : MapStore} where
  -- the number that a call gets says what is decided
  says : (c : Call) (n : ℕ) → map_answer room c m ≡ n → Decided c room m (told n (gives c m))
  says c n e = record { reply = say n (map_answer room c m) (gives c m) e }

  module _ {t : ℕ} where
    pub begin_old : t < m.low → Decided (Begin t) room m (told 4 (gives (Begin t) m))
    begin_old a = says (Begin t) 4 (time_old m t _ a)

    module _ (a : m.low ≤ t) where
      pub begin_future : m.last < t → Decided (Begin t) room m (told 5 (gives (Begin t) m))
      begin_future b = says (Begin t) 5 (time_future m t _ a b)

      module _ (b : t ≤ m.last) {r : ℕ} (f : r ≡ occupied m.places) where
        pub begin_many : most_running ≤ r → Decided (Begin t) room m (told 6 (gives (Begin t) m))
        begin_many d = says (Begin t) 6 (time_inside m t _ a b ∙ rw (← f, le-leb most_running r d))

        module _ (d : r < most_running) where
          pub begin_numbers : numbers_end ≤ m.next → Decided (Begin t) room m (told 7 (gives (Begin t) m))
          begin_numbers g = says (Begin t) 7 (time_inside m t _ a b ∙ rw (← f, lt-leb most_running r d, le-leb numbers_end m.next g))

          pub begin_begun : m.next < numbers_end → Decided (Begin t) room m (told 0 (gives (Begin t) m))
          begin_begun g = says (Begin t) 0 (time_inside m t _ a b ∙ rw (← f, lt-leb most_running r d, lt-leb numbers_end m.next g))

  module _ {n : ℕ} where
    module _ (p : place_of n m.places ≡ free) where
      pub abort_unknown : Decided (Abort n) room m (told 2 (gives (Abort n) m))
      abort_unknown = says (Abort n) 2 (rw p)

      pub update_unknown : {k : ℕ} {x : Effect} → Decided (Update n k x) room m (told 2 (gives (Update n k x) m))
      update_unknown {k} {x} = says (Update n k x) 2 (rw p)

      pub commit_unknown : {t : ℕ} → Decided (Commit n t) room m (told 2 (gives (Commit n t) m))
      commit_unknown {t} = says (Commit n t) 2 (rw p)

    module _ {x s : ℕ} {rows : List Note} (p : place_of n m.places ≡ taken x s rows) where
      pub abort_done : Decided (Abort n) room m (told 0 (gives (Abort n) m))
      abort_done = says (Abort n) 0 (rw p)

      module _ {k : ℕ} {e : Effect} where
        pub update_key : k ≡ 0 → Decided (Update n k e) room m (told 3 (gives (Update n k e) m))
        update_key z = says (Update n k e) 3 (rw (p, eq-eqb k 0 z))

        module _ (z : k ≡ 0 → ⊥) {b : Bool} (d : b ≡ not (has_key k rows || ltb (length rows) most_keys)) where
          pub update_full : b ≡ true → Decided (Update n k e) room m (told 8 (gives (Update n k e) m))
          update_full f = says (Update n k e) 8 (rw (p, ne_eqb k 0 z, not-true (has_key k rows || ltb (length rows) most_keys) (sym d ∙ f)))

          pub update_fits : b ≡ false → Decided (Update n k e) room m (told 0 (gives (Update n k e) m))
          update_fits f = says (Update n k e) 0 (rw (p, ne_eqb k 0 z, not-false (has_key k rows || ltb (length rows) most_keys) (sym d ∙ f)))

      module _ {t : ℕ} where
        pub commit_later : t ≤ m.last → Decided (Commit n t) room m (told 10 (gives (Commit n t) m))
        commit_later l = says (Commit n t) 10 (rw (p, le-leb t m.last l))

        module _ (l : m.last < t) {b : Bool} (d : b ≡ clash s (firsts rows) m.versions) where
          pub commit_conflict : b ≡ true → Decided (Commit n t) room m (told 11 (gives (Commit n t) m))
          commit_conflict f = says (Commit n t) 11 (rw (p, lt-leb t m.last l, sym d ∙ f))

          module _ (f : b ≡ false) {used count : ℕ} (u : length m.versions ≡ used) (g : count ≡ length (firsts rows)) where
            pub commit_room : room < used + count → Decided (Commit n t) room m (told 12 (gives (Commit n t) m))
            commit_room o = says (Commit n t) 12 (rw (p, lt-leb t m.last l, sym d ∙ f, u, ← g, lt-leb (used + count) room o))

            pub commit_done : used + count ≤ room → Decided (Commit n t) room m (told 0 (gives (Commit n t) m))
            commit_done o = says (Commit n t) 0 (rw (p, lt-leb t m.last l, sym d ∙ f, u, ← g, le-leb (used + count) room o))

-- an accepted commit has a row for each key
pub commit_fits : (room n t : ℕ) (m : MapStore) → map_answer room (Commit n t) m ≡ 0
    → length m.versions + length (rows_at (place_of n m.places)) ≤ room
commit_fits room n t m e = (fitting (map_refusal (Commit n t) m) (length m.versions + length (rows_at (place_of n m.places))) room e).1
