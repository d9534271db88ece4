-- Any sequence of calls on a map store as its host keeps it: head and columns, lent to each call with whatever room stands behind the used rows.
-- A call is one whose answer, head and columns meet the contract that the code is proved to meet; refused calls stay in the sequence and change
-- nothing. Assumes nothing.
use Rattle.std.specs.Prelude.{◌≡◌, true, List, [], ◌∷◌, ◌≢◌, ℕ, ◌≤◌, length}
use Rattle.rules.specs.declared.Effect.{Effect}
use Rattle.rules.specs.Calls.{Begin, Update, Abort, Commit}
use Rattle.answer.specs.Reply.{Reply, after}
use Rattle.versions.specs.Versions.{Columns, no_columns}
use Rattle.versions.specs.Columns.{front}
use Rattle.map_store.specs.declared.MapHead.{MapHead}
use Rattle.map_store.specs.Meaning.{MapStore}
use Rattle.map_store.specs.Shape.{empty_head, lengths, is_shaped, meaning}
use Rattle.map_store.specs.CallContracts.{Answered, Committed}
use Rattle.history.specs.History.{Deed, Did, Checkpointed}
use Rattle.map_store.specs.CallContracts as contract

-- what a host keeps of a map store
pub record MapCells : Type 0 where
  pub head : MapHead
  pub columns : Columns

-- the empty store
abbrev pub empty_map_cells : MapCells
empty_map_cells = record { head = empty_head; columns = no_columns }

-- what the cells mean
abbrev pub map_meaning_of : MapCells → MapStore
map_meaning_of x = meaning x.head x.columns

-- the lent columns have the store's used rows; what stands behind them is anything
abbrev pub MapHolds : MapCells → Columns → Type 0
MapHolds x cs = front x.head.used cs ≡ front x.head.used x.columns

-- whole columns: paired, with room for these rows at least
pub record MapLent (x : MapCells) (cs : Columns) : Type 0 where
  pub rows : x.head.used ≤ length cs.keys
  pub times_paired : length cs.keys ≡ length cs.times
  pub values_paired : length cs.keys ≡ length cs.values
  pub marks_paired : length cs.keys ≡ length cs.marks
  pub held : MapHolds x cs

-- a deed by its contract: begin, update and abort write no column
pub data Does (h : MapHead) (cs : Columns) (a : Reply) (head : MapHead) : Deed → Columns → Type 0 where
  begins : (t : ℕ) → Answered (Begin t) h cs a head → Does h cs a head (Did (Begin t)) cs
  updates : (n k : ℕ) (e : Effect) → Answered (Update n k e) h cs a head → Does h cs a head (Did (Update n k e)) cs
  aborts : (n : ℕ) → Answered (Abort n) h cs a head → Does h cs a head (Did (Abort n)) cs
  commits : (n t : ℕ) (cs' : Columns) → Committed n t h cs a head cs' → Does h cs a head (Did (Commit n t)) cs'
  checkpoints : (T : ℕ) (cs' : Columns) → contract.Checkpointed T h cs a head cs' → Does h cs a head (Checkpointed T) cs'

-- The map stores that calls reach, with the deeds that were accepted, the newest first. Whatever is lent: where it has the shape that a call asks for,
-- it has the store's own rows. A deed counts if its answer is 0; a refused one changes nothing.
pub data MapReached : List Deed → MapCells → Type 0 where
  map_start : MapReached [] empty_map_cells
  did : {ds : List Deed} {x : MapCells} → MapReached ds x → (d : Deed) (cs : Columns)
      → (is_shaped x.head (lengths cs) ≡ true → MapHolds x cs)
      → (a : Reply) (head : MapHead) (cs' : Columns) → Does x.head cs a head d cs'
      → MapReached (after a.number (d ∷ ds) ds) (after a.number (record { head = head; columns = cs' }) x)

-- A map store that was given these deeds one after the other, the newest first, and refused none for room (12); what else it answered is left open.
pub data Given : List Deed → MapCells → Type 0 where
  nothing_given : Given [] empty_map_cells
  given : {ds : List Deed} {x : MapCells} → Given ds x → (d : Deed) (cs : Columns) → MapLent x cs → (a : Reply) (head : MapHead) (cs' : Columns)
      → Does x.head cs a head d cs' → a.number ≢ 12 → Given (d ∷ ds) (record { head = head; columns = cs' })
