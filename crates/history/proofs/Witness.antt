-- The theorems are not empty: one sequence on lent cells, with junk behind the used ones, a refused call, a checkpoint, and a restart inside a record from a
-- head whose used count is old; the map store given the same calls, refused one and all; and the lists that the theorems give of both. Assumes nothing.
use Rattle.std.specs.Prelude.{◌≡◌, refl, Bool, true, ◌&&◌, List, [], ◌∷◌, ℕ, zero, suc, ltb, length, replicate, Some}
use Rattle.std.proofs.Common.{arith, ltb-true}
use Rattle.rules.specs.Bools.{and_left, and_right}
use Rattle.rules.specs.declared.Effect.TheVariants.{Assign, Add}
use Rattle.rules.specs.Calls.{Call, Begin, Update, Abort, Commit}
use Rattle.record.specs.Bytes.{Bytes}
use Rattle.answer.specs.Reply.{Reply, accepted}
use Rattle.slot.specs.Slots.{first_slot, lowest_free}
use Rattle.slot.specs.Places.{places_of}
use Rattle.versions.specs.Versions.{columns}
use Rattle.journal_store.specs.CallContracts.{ListedBy}
use Rattle.journal_store.specs.Shape.{SizedCall}
use Rattle.map_store.specs.CallContracts.{ListedAt}
use Rattle.history.specs.History.{Deed, Did, Checkpointed}
use Rattle.history.specs.Cells.{Cells, Reached, start, called, checkpointed, recovered}
use Rattle.history.proofs.Lent.{own}
use Rattle.history.proofs.Demands.{journal_lists_the_history}
use Rattle.history.specs.MapCells.{MapCells, begins, updates, aborts, commits, checkpoints, MapReached, map_start, did}
use Rattle.history.proofs.MapMeant.{map_own}
use Rattle.history.proofs.MapDemands.{map_lists}

-- every call is lent 144 bytes
abbrev lends : ℕ → Type 0
lends n = n ≡ 144

-- a store that was reached
pub record Story : Type 0 where
  pub deeds : List Deed
  pub since : ℕ
  pub cells : Cells
  pub reached : Reached lends deeds since cells

-- bytes, by a test of each
abbrev all_bytes : List ℕ → Bool
all_bytes [] = true
all_bytes (b ∷ bs) = ltb b 256 && all_bytes bs

pub bytes_all : (bs : List ℕ) → all_bytes bs ≡ true → Bytes bs
bytes_all [] h i l = absurd (omega arith)
bytes_all (b ∷ bs) h zero l = ltb-true b 256 (and_left (ltb b 256) (all_bytes bs) h)
bytes_all (b ∷ bs) h (suc i) l = bytes_all bs (and_right (ltb b 256) (all_bytes bs) h) i (omega arith)

-- a call that is lent the store's own cells, junk and all
abbrev then : (s : Story) (c : Call) → SizedCall c → length s.cells.journal ≡ 144 → Story
then s c z p =
    record {
      deeds = _;
      since = _;
      cells = _;
      reached =
          called s.reached c z s.cells.keys s.cells.values s.cells.journal p
          (λ shaped. record { keys_held = refl; values_held = refl; journal_held = refl }) _ _ _
          (record { reply = refl; headed = refl; cells = refl });
    }

-- the first call is lent two base rows and a journal full of junk
abbrev begun : Story
begun =
    record {
      deeds = _;
      since = _;
      cells = _;
      reached =
          called start (Begin 0) (record { transaction = omega arith; key = omega arith; value = omega arith; time = omega arith })
          (8 ∷ 8 ∷ []) (8 ∷ 8 ∷ []) (replicate 144 7) refl (λ shaped. record { keys_held = refl; values_held = refl; journal_held = refl }) _ _ _
          (record { reply = refl; headed = refl; cells = refl });
    }

abbrev assigned : Story
assigned =
    then begun (Update 1 5 (Assign 10)) (record { transaction = omega arith; key = omega arith; value = omega arith; time = omega arith }) refl

-- key 0: refused with 3
abbrev refused : Story
refused =
    then assigned (Update 1 0 (Assign 10)) (record { transaction = omega arith; key = omega arith; value = omega arith; time = omega arith }) refl

refused_deeds : refused.deeds ≡ assigned.deeds
refused_deeds = refl

abbrev committed : Story
committed = then refused (Commit 1 2) (record { transaction = omega arith; key = omega arith; value = omega arith; time = omega arith }) refl

abbrev settled : Story
settled =
    record {
      deeds = _;
      since = _;
      cells = _;
      reached =
          checkpointed committed.reached 2 (omega arith) committed.cells.keys committed.cells.values committed.cells.journal
          (bytes_all committed.cells.journal refl) (λ shaped. record { keys_held = refl; values_held = refl; journal_held = refl }) _ _ _ _ _
          (record { reply = refl; headed = refl; keys_column = refl; values_column = refl; cells = refl });
    }

abbrev second : Story
second = then settled (Begin 2) (record { transaction = omega arith; key = omega arith; value = omega arith; time = omega arith }) refl

abbrev added : Story
added = then second (Update 2 5 (Add 3)) (record { transaction = omega arith; key = omega arith; value = omega arith; time = omega arith }) refl

abbrev raised : Story
raised = then added (Commit 2 4) (record { transaction = omega arith; key = omega arith; value = omega arith; time = omega arith }) refl

abbrev third : Story
third = then raised (Begin 4) (record { transaction = omega arith; key = omega arith; value = omega arith; time = omega arith }) refl

abbrev last : Story
last = then third (Update 3 9 (Assign 99)) (record { transaction = omega arith; key = omega arith; value = omega arith; time = omega arith }) refl

-- five records, 120 bytes; the cut is at byte 101, inside the last update, and the lent head counts 1,000 records
abbrev restarted : Story
restarted =
    record {
      deeds = _;
      since = _;
      cells = _;
      reached =
          recovered last.reached 101 (record { late = omega arith; early = omega arith }) last.cells.keys last.cells.values last.cells.journal
          (bytes_all last.cells.journal refl) (λ shaped. record { keys_held = refl; values_held = refl; journal_held = refl }) 1000 _ _ _
          (record { reply = refl; headed = refl; cells = refl });
    }

-- what was accepted and stands, step by step: transaction 3 was cut off, and is aborted
abbrev at_1 : List Deed
at_1 = Did (Begin 0) ∷ []

abbrev at_2 : List Deed
at_2 = Did (Update 1 5 (Assign 10)) ∷ at_1

abbrev at_3 : List Deed
at_3 = Did (Commit 1 2) ∷ at_2

abbrev at_4 : List Deed
at_4 = Checkpointed 2 ∷ at_3

abbrev at_5 : List Deed
at_5 = Did (Begin 2) ∷ at_4

abbrev at_6 : List Deed
at_6 = Did (Update 2 5 (Add 3)) ∷ at_5

abbrev at_7 : List Deed
at_7 = Did (Commit 2 4) ∷ at_6

abbrev at_8 : List Deed
at_8 = Did (Begin 4) ∷ at_7

abbrev stands : List Deed
stands = Did (Abort 3) ∷ at_8

stands_so : restarted.deeds ≡ stands
stands_so = refl

used_now : restarted.cells.head.journal.used ≡ 3
used_now = refl

-- The list at 4, in columns of two rows: key 5 has 10 and 3 more.
pub the_list_at_4 : (a : Reply) (listed contents : List ℕ)
    → ListedBy restarted.cells.head restarted.cells.keys restarted.cells.values restarted.cells.journal 4 (7 ∷ 7 ∷ []) (7 ∷ 7 ∷ []) a listed contents
    → (a ≡ accepted (Some 1)) × (listed ≡ 5 ∷ 7 ∷ []) × (contents ≡ 13 ∷ 7 ∷ [])
the_list_at_4 a listed contents w =
    let r = restarted.reached in
    let m =
    journal_lists_the_history r restarted.cells.keys restarted.cells.values restarted.cells.journal (own r) 4 (omega arith) (omega arith)
    (7 ∷ 7 ∷ []) (7 ∷ 7 ∷ []) refl (omega arith) a listed contents w
    in
    (m.reply, m.keys_column, m.values_column)

-- THE MAP STORE, given the same calls: one that was reached with these deeds
abbrev MapStory : List Deed → Type 0
MapStory ds = (x : MapCells) × MapReached ds x

abbrev junk : List ℕ
junk = 8 ∷ 8 ∷ 8 ∷ []

abbrev pub map_1 : MapStory at_1
unfolding first_slot lowest_free places_of
map_1 = (
  _,
  did map_start (Did (Begin 0)) (columns junk junk junk junk) (λ shaped. refl) _ _ _
      (begins 0 (record { reply = refl; headed = refl })),
)

abbrev pub map_2 : MapStory at_2
unfolding first_slot lowest_free places_of
map_2 = (
  _,
  did map_1.1 (Did (Update 1 5 (Assign 10))) map_1.0.columns (λ shaped. refl) _ _ _
      (updates 1 5 (Assign 10) (record { reply = refl; headed = refl })),
)

-- key 0: refused with 3
abbrev pub map_refused_lem : MapStory at_2
unfolding first_slot lowest_free places_of
map_refused_lem = (
  _,
  did map_2.1 (Did (Update 1 0 (Assign 10))) map_2.0.columns (λ shaped. refl) _ _ _
      (updates 1 0 (Assign 10) (record { reply = refl; headed = refl })),
)

abbrev pub map_3 : MapStory at_3
unfolding first_slot lowest_free places_of
map_3 = (
  _,
  did map_refused_lem.1 (Did (Commit 1 2)) map_refused_lem.0.columns (λ shaped. refl) _ _ _
      (commits 1 2 _ (record { answered = record { reply = refl; headed = refl }; cells = refl })),
)

abbrev pub map_4 : MapStory at_4
unfolding first_slot lowest_free places_of
map_4 = (
  _,
  did map_3.1 (Checkpointed 2) map_3.0.columns (λ shaped. refl) _ _ _
      (checkpoints 2 _ (record { reply = refl; headed = refl; cells = refl })),
)

abbrev pub map_5 : MapStory at_5
unfolding first_slot lowest_free places_of
map_5 = (
  _,
  did map_4.1 (Did (Begin 2)) map_4.0.columns (λ shaped. refl) _ _ _
      (begins 2 (record { reply = refl; headed = refl })),
)

abbrev pub map_6 : MapStory at_6
unfolding first_slot lowest_free places_of
map_6 = (
  _,
  did map_5.1 (Did (Update 2 5 (Add 3))) map_5.0.columns (λ shaped. refl) _ _ _
      (updates 2 5 (Add 3) (record { reply = refl; headed = refl })),
)

abbrev pub map_7 : MapStory at_7
unfolding first_slot lowest_free places_of
map_7 = (
  _,
  did map_6.1 (Did (Commit 2 4)) map_6.0.columns (λ shaped. refl) _ _ _
      (commits 2 4 _ (record { answered = record { reply = refl; headed = refl }; cells = refl })),
)

abbrev pub map_8 : MapStory at_8
unfolding first_slot lowest_free places_of
map_8 = (
  _,
  did map_7.1 (Did (Begin 4)) map_7.0.columns (λ shaped. refl) _ _ _
      (begins 4 (record { reply = refl; headed = refl })),
)

abbrev pub map_9 : MapStory stands
unfolding first_slot lowest_free places_of
map_9 = (
  _,
  did map_8.1 (Did (Abort 3)) map_8.0.columns (λ shaped. refl) _ _ _
      (aborts 3 (record { reply = refl; headed = refl })),
)

-- The map's list at 4 is the same.
pub the_map_lists_at_4 : (a : Reply) (listed contents : List ℕ)
    → ListedAt 4 map_9.0.head map_9.0.columns (7 ∷ 7 ∷ []) (7 ∷ 7 ∷ []) a listed contents
    → (a ≡ accepted (Some 1)) × (listed ≡ 5 ∷ 7 ∷ []) × (contents ≡ 13 ∷ 7 ∷ [])
unfolding first_slot lowest_free places_of
the_map_lists_at_4 a listed contents w =
    let m =
    map_lists map_9.1 map_9.0.columns (map_own map_9.1) 4 (omega arith) (omega arith)
    (7 ∷ 7 ∷ []) (7 ∷ 7 ∷ []) refl (omega arith) a listed contents w
    in
    (m.reply, m.keys_column, m.values_column)
