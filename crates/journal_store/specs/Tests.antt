-- What the tests of a call, made in section 6's order, let it answer: on any store, one law for each way out. Assumes nothing.
use Rattle.std.specs.Prelude.{◌≡◌, true, false, Bool, ℕ, ◌+◌, ◌<◌, ◌≤◌, ltb, length, Some, None}
use Rattle.std.proofs.Common.{sym, ap, ◌∙◌, lt-ltb, le-ltb, le-leb, eq-eqb, ne_eqb}
use Rattle.std.proofs.lemmas.Bool.{lt-leb}
use Rattle.rules.specs.Limits.{most_running, numbers_end}
use Rattle.rules.specs.declared.Effect.{Effect}
use Rattle.rules.specs.Calls.{Store, Call, Begin, Update, Abort, Commit, refusal, need, with_room, answer, gives, last_of, next_of, running_of, runs_in, may_write_in, conflict_in, value_of, read_of, list_of, list_answer, checkpoint_refusal, held_in}
use Rattle.rules.specs.Value.{Value}
use Rattle.answer.specs.declared.Refusal.{Refusal}
use Rattle.answer.specs.declared.Refusal.TheVariants.{NoRoom}
use Rattle.answer.specs.Reply.{Reply, refused, accepted, told, number_of}
use Rattle.answer.specs.Laws.{refused_some}
use Rattle.journal_store.specs.CallContracts.{Decided, read_decided, lookup_decided, list_decided}

-- a begin that no test before the room refuses
begin_passes : (s : Store) (t : ℕ) → s.low ≤ t → ltb (last_of s) t ≡ false → (r : ℕ) → r ≡ length (running_of s) → r < most_running
    → (n : ℕ) → n ≡ next_of s → n < numbers_end → refusal (Begin t) s ≡ 0
begin_passes s t a b r m d n g h = rw (le-ltb t s.low a, b, ← m, lt-leb most_running r d, ← g, lt-leb numbers_end n h)

module _ {room : ℕ} {s : Store} where
  -- the number that a call gets says what is decided
  say : (c : Call) (n : ℕ) → answer room c s ≡ n → Decided c room s (told n (gives c s))
  say c n e = record { reply = sym (ap (λ (m : ℕ). told m (gives c s)) e) }

  -- where no test before it refuses, the last one asks for room
  fits : (c : Call) → refusal c s ≡ 0 → {used : ℕ} → length s.records ≡ used → {a : Reply} → a ≡ told (with_room 0 (used + need c s) room) (gives c s)
      → Decided c room s a
  fits c z u g = record { reply = rw (z, u) g }

  module _ {t : ℕ} where
    pub begin_old : t < s.low → Decided (Begin t) room s (told 4 (gives (Begin t) s))
    begin_old a = say (Begin t) 4 (rw (lt-ltb t s.low a))

    module _ (a : s.low ≤ t) where
      pub begin_future : ltb (last_of s) t ≡ true → Decided (Begin t) room s (told 5 (gives (Begin t) s))
      begin_future b = say (Begin t) 5 (rw (le-ltb t s.low a, b))

      module _ (b : ltb (last_of s) t ≡ false) {r : ℕ} (m : r ≡ length (running_of s)) where
        pub begin_many : most_running ≤ r → Decided (Begin t) room s (told 6 (gives (Begin t) s))
        begin_many d = say (Begin t) 6 (rw (le-ltb t s.low a, b, ← m, le-leb most_running r d))

        module _ (d : r < most_running) {n : ℕ} (g : n ≡ next_of s) where
          pub begin_numbers : numbers_end ≤ n → Decided (Begin t) room s (told 7 (gives (Begin t) s))
          begin_numbers h = say (Begin t) 7 (rw (le-ltb t s.low a, b, ← m, lt-leb most_running r d, ← g, le-leb numbers_end n h))

          module _ (h : n < numbers_end) {used : ℕ} (u : length s.records ≡ used) where
            pub begin_short : (x : Refusal) → refused x ≡ told (with_room 0 (used + (2 + r)) room) None → Decided (Begin t) room s (refused x)
            begin_short x i =
                let q : with_room 0 (used + (2 + r)) room ≡ number_of x = sym (ap (λ (a : Reply). a.number) i) in
                fits (Begin t) (begin_passes s t a b r m d n g h) u (i ∙ rw (← m, q, refused_some x))

            pub begin_fits : accepted None ≡ told (with_room 0 (used + (2 + r)) room) None → Decided (Begin t) room s (accepted (Some n))
            begin_fits i =
                let q : with_room 0 (used + (2 + r)) room ≡ 0 = sym (ap (λ (a : Reply). a.number) i) in
                fits (Begin t) (begin_passes s t a b r m d n g h) u (rw (← m, q, g))

            -- the same by what is used and the room
            pub begin_room : room < used + (2 + r) → Decided (Begin t) room s (told 12 (gives (Begin t) s))
            begin_room i = begin_short NoRoom (rw (lt-leb (used + (2 + r)) room i))

            pub begin_begun : used + (2 + r) ≤ room → Decided (Begin t) room s (accepted (Some n))
            begin_begun i = begin_fits (rw (le-leb (used + (2 + r)) room i))

  module _ {n : ℕ} where
    module _ (f : runs_in n s ≡ false) where
      pub abort_unknown : Decided (Abort n) room s (told 2 (gives (Abort n) s))
      abort_unknown = say (Abort n) 2 (rw f)

      pub update_unknown : {k : ℕ} {x : Effect} → Decided (Update n k x) room s (told 2 (gives (Update n k x) s))
      update_unknown {k} {x} = say (Update n k x) 2 (rw f)

      pub commit_unknown : {t : ℕ} → Decided (Commit n t) room s (told 2 (gives (Commit n t) s))
      commit_unknown {t} = say (Commit n t) 2 (rw f)

    module _ (f : runs_in n s ≡ true) where
      pub abort_room : {used : ℕ} → length s.records ≡ used → {a : Reply} → a ≡ told (with_room 0 (used + 1) room) None → Decided (Abort n) room s a
      abort_room u g = fits (Abort n) (rw f) u g

      module _ {t l : ℕ} (g : l ≡ last_of s) where
        pub commit_later : t ≤ l → Decided (Commit n t) room s (told 10 (gives (Commit n t) s))
        commit_later i = say (Commit n t) 10 (rw (f, ← g, le-leb t l i))

        module _ (i : l < t) where
          pub commit_conflict : conflict_in n s ≡ true → Decided (Commit n t) room s (told 11 (gives (Commit n t) s))
          commit_conflict h = say (Commit n t) 11 (rw (f, ← g, lt-leb t l i, h))

          pub commit_room : conflict_in n s ≡ false → {used : ℕ} → length s.records ≡ used → {a : Reply} → a ≡ told (with_room 0 (used + 1) room) None
              → Decided (Commit n t) room s a
          commit_room h u o = fits (Commit n t) (rw (f, ← g, lt-leb t l i, h)) u o

      module _ {k : ℕ} {x : Effect} where
        pub update_key : k ≡ 0 → Decided (Update n k x) room s (told 3 (gives (Update n k x) s))
        update_key z = say (Update n k x) 3 (rw (f, eq-eqb k 0 z))

        module _ (z : k ≡ 0 → ⊥) where
          pub update_full : may_write_in n k s ≡ false → Decided (Update n k x) room s (told 8 (gives (Update n k x) s))
          update_full h = say (Update n k x) 8 (rw (f, ne_eqb k 0 z, h))

          pub update_room : may_write_in n k s ≡ true → {r : ℕ} → r ≡ length (running_of s) → {used : ℕ} → length s.records ≡ used
              → {a : Reply} → a ≡ told (with_room 0 (used + (1 + r)) room) None → Decided (Update n k x) room s a
          update_room h m u o = fits (Update n k x) (rw (f, ne_eqb k 0 z, h)) u (rw m at o)

-- the ways out of a read
module _ (n k : ℕ) (s : Store) where
  pub read_unknown : runs_in n s ≡ false → told 2 (read_of n k s) ≡ read_decided n k s
  read_unknown f = rw f

  module _ (f : runs_in n s ≡ true) where
    pub read_key : k ≡ 0 → told 3 (read_of n k s) ≡ read_decided n k s
    read_key z = rw (f, eq-eqb k 0 z)

    pub read_value : (k ≡ 0 → ⊥) → {v : Value} → v ≡ read_of n k s → accepted v ≡ read_decided n k s
    read_value z g = rw (f, ne_eqb k 0 z, g)

-- the ways out of a lookup
module _ (k t : ℕ) (s : Store) where
  pub lookup_key : k ≡ 0 → told 3 (value_of k t s) ≡ lookup_decided k t s
  lookup_key z = rw (eq-eqb k 0 z)

  module _ (z : k ≡ 0 → ⊥) where
    pub lookup_old : t < s.low → told 4 (value_of k t s) ≡ lookup_decided k t s
    lookup_old a = rw (ne_eqb k 0 z, lt-ltb t s.low a)

    module _ (a : s.low ≤ t) (f : Bool) (e : f ≡ ltb (last_of s) t) where
      pub lookup_future : f ≡ true → told 5 (value_of k t s) ≡ lookup_decided k t s
      lookup_future b = rw (ne_eqb k 0 z, le-ltb t s.low a, sym e ∙ b)

      pub lookup_value : f ≡ false → (v : Value) → v ≡ value_of k t s → accepted v ≡ lookup_decided k t s
      lookup_value b v g = rw (ne_eqb k 0 z, le-ltb t s.low a, sym e ∙ b, g)

-- the ways out of a list
module _ (room t : ℕ) (s : Store) where
  pub list_old : t < s.low → told 4 (Some (length (list_of t s))) ≡ list_decided room t s
  list_old a = rw (lt-ltb t s.low a)

  module _ (a : s.low ≤ t) (f : Bool) (e : f ≡ ltb (last_of s) t) where
    pub list_future : f ≡ true → told 5 (Some (length (list_of t s))) ≡ list_decided room t s
    list_future b = rw (le-ltb t s.low a, sym e ∙ b)

    module _ (b : f ≡ false) (n : ℕ) (g : n ≡ length (list_of t s)) where
      list_number : (m : ℕ) → list_answer room t s ≡ m → told m (Some (length (list_of t s))) ≡ list_decided room t s
      list_number m q = sym (ap (λ (x : ℕ). told x (Some (length (list_of t s)))) q)

      pub list_room : room < n → told 12 (Some (length (list_of t s))) ≡ list_decided room t s
      list_room h = list_number 12 (rw (le-ltb t s.low a, sym e ∙ b, ← g, lt-leb n room h))

      pub list_rows : n ≤ room → accepted (Some n) ≡ list_decided room t s
      list_rows h = ap (λ (x : ℕ). accepted (Some x)) g ∙ list_number 0 (rw (le-ltb t s.low a, sym e ∙ b, ← g, le-leb n room h))

-- the ways out of a checkpoint before the room
module _ (t : ℕ) (s : Store) where
  pub checkpoint_old : t < s.low → told 4 None ≡ told (checkpoint_refusal t s) None
  checkpoint_old a = rw (lt-ltb t s.low a)

  module _ (a : s.low ≤ t) (i : Bool) (e : i ≡ ltb (last_of s) t) where
    pub checkpoint_future : i ≡ true → told 5 None ≡ told (checkpoint_refusal t s) None
    checkpoint_future b = rw (le-ltb t s.low a, sym e ∙ b)

    module _ (b : i ≡ false) (d : Bool) (g : d ≡ held_in t s) where
      pub checkpoint_held : d ≡ true → told 9 None ≡ told (checkpoint_refusal t s) None
      checkpoint_held f = rw (le-ltb t s.low a, sym e ∙ b, sym g ∙ f)

      pub checkpoint_clear : d ≡ false → told 0 None ≡ told (checkpoint_refusal t s) None
      checkpoint_clear f = rw (le-ltb t s.low a, sym e ∙ b, sym g ∙ f)
