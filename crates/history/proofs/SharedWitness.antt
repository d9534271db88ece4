-- The theorems on shared counters are not empty: poller and service port raise one register at the same time, on lent cells of both stores, and the lookup that the theorems
-- give of each; a third that assigned it is refused. Assumes nothing.
use Rattle.std.specs.Prelude.{◌≡◌, refl, List, [], ◌∷◌, ℕ, length, replicate, Some}
use Rattle.std.proofs.Common.{arith}
use Rattle.rules.specs.declared.Effect.TheVariants.{Assign, Add}
use Rattle.rules.specs.Calls.{Call, Begin, Update, Commit}
use Rattle.answer.specs.Reply.{Reply, accepted}
use Rattle.slot.specs.Slots.{first_slot, lowest_free}
use Rattle.slot.specs.Places.{places_of}
use Rattle.versions.specs.Versions.{columns}
use Rattle.journal_store.specs.declared.Head.{Head}
use Rattle.journal_store.specs.CallContracts.{Wrote, lookup_decided, shaped_reply}
use Rattle.journal_store.specs.Shape.{SizedCall}
use Rattle.map_store.specs.declared.MapHead.{MapHead}
use Rattle.map_store.specs.CallContracts.{lookup_reply}
use Rattle.versions.specs.Versions.{Columns}
use Rattle.history.specs.History.{Deed, Did}
use Rattle.history.specs.Cells.{Cells, Reached, start, called}
use Rattle.history.proofs.Lent.{own}
use Rattle.history.specs.MapCells.{MapCells, Does, begins, updates, commits, MapReached, map_start, did}
use Rattle.history.proofs.MapMeant.{map_own}
use Rattle.history.proofs.Counters.{both_totals_are_looked_up, an_assign_conflicts, map_both_totals_are_looked_up, map_an_assign_conflicts}

-- every call is lent 336 bytes
abbrev lends : ℕ → Type 0
lends n = n ≡ 336

-- a store that was reached
pub record Story : Type 0 where
  pub deeds : List Deed
  pub since : ℕ
  pub cells : Cells
  pub reached : Reached lends deeds since cells

-- a call that is lent the store's own cells
abbrev then : (s : Story) (c : Call) → SizedCall c → length s.cells.journal ≡ 336 → Story
then s c z p =
    record {
      deeds = _;
      since = _;
      cells = _;
      reached =
          called s.reached c z s.cells.keys s.cells.values s.cells.journal p
          (λ shaped. record { keys_held = refl; values_held = refl; journal_held = refl }) _ _ _
          (record { reply = refl; headed = refl; cells = refl });
    }

abbrev begun : Story
begun =
    record {
      deeds = _;
      since = _;
      cells = _;
      reached =
          called start (Begin 0) (record { transaction = omega arith; key = omega arith; value = omega arith; time = omega arith })
          [] [] (replicate 336 7) refl (λ shaped. record { keys_held = refl; values_held = refl; journal_held = refl }) _ _ _
          (record { reply = refl; headed = refl; cells = refl });
    }

-- the register holds 10 at 1
abbrev settled : Story
settled =
    then
    (then begun (Update 1 1 (Assign 10)) (record { transaction = omega arith; key = omega arith; value = omega arith; time = omega arith }) refl)
    (Commit 1 1) (record { transaction = omega arith; key = omega arith; value = omega arith; time = omega arith }) refl

-- three begin at 1
abbrev running : Story
running =
    then
    (then
    (then settled (Begin 1) (record { transaction = omega arith; key = omega arith; value = omega arith; time = omega arith }) refl)
    (Begin 1) (record { transaction = omega arith; key = omega arith; value = omega arith; time = omega arith }) refl)
    (Begin 1) (record { transaction = omega arith; key = omega arith; value = omega arith; time = omega arith }) refl

-- they add 3, add 4, and assign 9
abbrev updated : Story
updated =
    then
    (then
    (then running (Update 2 1 (Add 3)) (record { transaction = omega arith; key = omega arith; value = omega arith; time = omega arith }) refl)
    (Update 3 1 (Add 4)) (record { transaction = omega arith; key = omega arith; value = omega arith; time = omega arith }) refl)
    (Update 4 1 (Assign 9)) (record { transaction = omega arith; key = omega arith; value = omega arith; time = omega arith }) refl

-- the adders commit at 2 and 3
abbrev pub raised : Story
raised =
    then
    (then updated (Commit 2 2) (record { transaction = omega arith; key = omega arith; value = omega arith; time = omega arith }) refl)
    (Commit 3 3) (record { transaction = omega arith; key = omega arith; value = omega arith; time = omega arith }) refl

-- Both totals stand: 10, 3 and 4.
pub the_counter_at_3 : shaped_reply raised.cells.head raised.cells.keys raised.cells.values raised.cells.journal (lookup_decided 1 3)
    ≡ accepted (Some 17)
the_counter_at_3 =
    both_totals_are_looked_up raised.reached raised.cells.keys raised.cells.values raised.cells.journal (own raised.reached)
    [] _ [] _ _ refl 1 1 3 (omega arith) (omega arith) (omega arith) (omega arith) (omega arith) refl refl refl (refl, refl) (refl, refl)

-- And the assigner gets 11.
pub the_assigner_at_4 : (a : Reply) (head : Head) (journal' : List ℕ)
    → Wrote (Commit 4 4) raised.cells.head raised.cells.keys raised.cells.values raised.cells.journal a head journal' → a.number ≡ 11
the_assigner_at_4 =
    an_assign_conflicts raised.reached raised.cells.keys raised.cells.values raised.cells.journal (own raised.reached)
    [] _ _ refl 4 4 refl (omega arith) (omega arith) 1 refl refl refl

-- THE MAP STORE, given the same calls
abbrev MapStory : List Deed → Type 0
MapStory ds = (x : MapCells) × MapReached ds x

abbrev junk : List ℕ
junk = 8 ∷ 8 ∷ 8 ∷ 8 ∷ []

abbrev map_settled : MapStory (Did (Commit 1 1) ∷ Did (Update 1 1 (Assign 10)) ∷ Did (Begin 0) ∷ [])
unfolding first_slot lowest_free places_of
map_settled = (
  _,
  did
      (did
      (did map_start (Did (Begin 0)) (columns junk junk junk junk) (λ shaped. refl) _ _ _ (begins 0 (record { reply = refl; headed = refl })))
      (Did (Update 1 1 (Assign 10))) (columns junk junk junk junk) (λ shaped. refl) _ _ _ (updates 1 1 (Assign 10) (record { reply = refl; headed = refl })))
      (Did (Commit 1 1)) (columns junk junk junk junk) (λ shaped. refl) _ _ _
      (commits 1 1 _ (record { answered = record { reply = refl; headed = refl }; cells = refl })),
)

abbrev map_running : MapStory (Did (Begin 1) ∷ Did (Begin 1) ∷ Did (Begin 1) ∷ Did (Commit 1 1) ∷ Did (Update 1 1 (Assign 10)) ∷ Did (Begin 0) ∷ [])
unfolding first_slot lowest_free places_of
map_running =
    let cs = map_settled.0.columns in (
      _,
      did
          (did
          (did map_settled.1 (Did (Begin 1)) cs (λ shaped. refl) _ _ _ (begins 1 (record { reply = refl; headed = refl })))
          (Did (Begin 1)) cs (λ shaped. refl) _ _ _ (begins 1 (record { reply = refl; headed = refl })))
          (Did (Begin 1)) cs (λ shaped. refl) _ _ _ (begins 1 (record { reply = refl; headed = refl })),
    )

abbrev updates_of : List Deed
updates_of = Did (Update 4 1 (Assign 9)) ∷ Did (Update 3 1 (Add 4)) ∷ Did (Update 2 1 (Add 3)) ∷ Did (Begin 1) ∷ Did (Begin 1) ∷ Did (Begin 1)
    ∷ Did (Commit 1 1) ∷ Did (Update 1 1 (Assign 10)) ∷ Did (Begin 0) ∷ []

abbrev map_updated : MapStory updates_of
unfolding first_slot lowest_free places_of
map_updated =
    let cs = map_settled.0.columns in (
      _,
      did
          (did
          (did map_running.1 (Did (Update 2 1 (Add 3))) cs (λ shaped. refl) _ _ _ (updates 2 1 (Add 3) (record { reply = refl; headed = refl })))
          (Did (Update 3 1 (Add 4))) cs (λ shaped. refl) _ _ _ (updates 3 1 (Add 4) (record { reply = refl; headed = refl })))
          (Did (Update 4 1 (Assign 9))) cs (λ shaped. refl) _ _ _ (updates 4 1 (Assign 9) (record { reply = refl; headed = refl })),
    )

abbrev map_second : MapStory (Did (Commit 2 2) ∷ updates_of)
unfolding first_slot lowest_free places_of
map_second = (
  _,
  did map_updated.1 (Did (Commit 2 2)) map_updated.0.columns (λ shaped. refl) _ _ _
      (commits 2 2 _ (record { answered = record { reply = refl; headed = refl }; cells = refl })),
)

abbrev pub map_raised : MapStory (Did (Commit 3 3) ∷ Did (Commit 2 2) ∷ updates_of)
unfolding first_slot lowest_free places_of
map_raised = (
  _,
  did map_second.1 (Did (Commit 3 3)) map_second.0.columns (λ shaped. refl) _ _ _
      (commits 3 3 _ (record { answered = record { reply = refl; headed = refl }; cells = refl })),
)

-- The map's lookup is the same, and so is its refusal.
pub the_map_counter_at_3 : lookup_reply 1 3 map_raised.0.head map_raised.0.columns ≡ accepted (Some 17)
unfolding first_slot lowest_free places_of
the_map_counter_at_3 =
    map_both_totals_are_looked_up map_raised.1 map_raised.0.columns (map_own map_raised.1) [] _ [] _ _ refl 1 1 3
    (omega arith) (omega arith) (omega arith) (omega arith) (omega arith) refl refl refl (refl, refl) (refl, refl)

pub the_map_assigner_at_4 : (a : Reply) (head : MapHead) {cs' : Columns}
    → Does map_raised.0.head map_raised.0.columns a head (Did (Commit 4 4)) cs' → a.number ≡ 11
unfolding first_slot lowest_free places_of
the_map_assigner_at_4 =
    map_an_assign_conflicts map_raised.1 map_raised.0.columns (map_own map_raised.1) [] _ _ refl 4 4 refl (omega arith) (omega arith) 1
    refl refl refl
