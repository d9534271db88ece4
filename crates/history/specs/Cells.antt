-- Any sequence of calls on a journal store as its host keeps it: head, base columns and journal bytes, lent to each call with whatever room stands
-- behind the used cells. A call is one whose answer, head and cells meet the contract that the code is proved to meet; refused calls stay in the
-- sequence and change nothing. Assumes nothing.
use Rattle.std.specs.Prelude.{◌≡◌, true, List, [], ◌∷◌, ◌++◌, ℕ, suc, ◌-◌, ◌*◌, ◌/◌, ◌^◌, ◌<◌, ◌≤◌, length, take, drop, get_or, Some}
use Rattle.rules.specs.Kinds.{record_size}
use Rattle.rules.specs.Values.{Row}
use Rattle.rules.specs.Lists.{row_keys}
use Rattle.rules.specs.Columns.{row_values}
use Rattle.rules.specs.Calls.{Store, Call}
use Rattle.record.specs.Bytes.{Bytes}
use Rattle.answer.specs.Reply.{Reply, told, after}
use Rattle.journal_store.specs.declared.Head.{Head}
use Rattle.journal_store.specs.Shape.{empty_head, is_shaped, meaning, SizedCall}
use Rattle.journal_store.specs.CallContracts.{Wrote, is_recoverable, Recovered}
use Rattle.history.specs.History.{Commitment, Deed, Did, Checkpointed, restarted, value_in, written_by}
use Rattle.journal_store.specs.CallContracts as checkpoint

-- what a host keeps of a journal store
pub record Cells : Type 0 where
  pub head : Head
  pub keys : List ℕ
  pub values : List ℕ
  pub journal : List ℕ

-- the empty store
abbrev pub empty_cells : Cells
empty_cells = record { head = empty_head; keys = []; values = []; journal = [] }

-- what the cells mean
abbrev pub meaning_of : Cells → Store
meaning_of x = meaning x.head x.keys x.values x.journal

-- where the journal ends, in bytes
abbrev pub end : Cells → ℕ
end x = x.head.journal.used * record_size

-- the lent columns and bytes have the store's used rows and its first so many bytes; what stands behind them is anything
pub record Holds (x : Cells) (bytes : ℕ) (keys values journal : List ℕ) : Type 0 where
  pub keys_held : take x.head.base.rows keys ≡ take x.head.base.rows x.keys
  pub values_held : take x.head.base.rows values ≡ take x.head.base.rows x.values
  pub journal_held : take bytes journal ≡ take bytes x.journal

-- whole columns, and so many of the store's bytes: paired, with room for these cells at least
pub record Lent (x : Cells) (bytes : ℕ) (keys values journal : List ℕ) : Type 0 where
  pub rows : x.head.base.rows ≤ length keys
  pub paired : length keys ≡ length values
  pub used : bytes ≤ length journal
  pub held : Holds x bytes keys values journal

-- a list that gets a number: where it is 0 the count of the rows, and these in front of both columns; else nothing
pub record Shows (rows : List Row) (number : ℕ) (listed contents : List ℕ) (a : Reply) (listed' contents' : List ℕ) : Type 0 where
  pub reply : a ≡ told number (Some (length rows))
  pub keys_column : listed' ≡ after number (row_keys rows ++ drop (length rows) listed) listed
  pub values_column : contents' ≡ after number (row_values rows ++ drop (length rows) contents) contents

-- exactly the registers of a history at t, in the first n places of two columns: keys rise strictly; a key stands there exactly if a transaction
-- committed at or before t wrote it; its value is the history's
pub record Registers (cs : List Commitment) (t n : ℕ) (keys values : List ℕ) : Type 0 where
  pub in_keys : n ≤ length keys
  pub in_values : n ≤ length values
  pub rise : (i j : ℕ) → i < j → j < n → get_or keys i 0 < get_or keys j 0
  pub each : (k : ℕ) → 1 ≤ k → written_by cs t k ≡ true → (i : ℕ) × (i < n) × (get_or keys i 0 ≡ k)
  pub only : (i : ℕ) → i < n → (1 ≤ get_or keys i 0) × (written_by cs t (get_or keys i 0) ≡ true)
  pub value : (i : ℕ) → i < n → Some (get_or values i 0) ≡ value_in cs t (get_or keys i 0)

-- a cut at a byte that lies no earlier than the journal's end at the latest accepted checkpoint, recovery or empty start, and no later than its end
-- now: `since` records were written since
pub record Cut (x : Cells) (since survived : ℕ) : Type 0 where
  pub late : (x.head.journal.used - since) * record_size ≤ survived
  pub early : survived ≤ end x

-- how many records a cut loses
abbrev pub lost : Cells → ℕ → ℕ
lost x survived = x.head.journal.used - survived / record_size

-- a head with another used count: what a host that keeps the head apart from the journal's bytes may have
abbrev pub counting : ℕ → Head → Head
counting used h = record { low = h.low; floor = h.floor; base = h.base; journal = record { used = used } }

-- The stores that calls reach, with the deeds that were accepted and stand, the newest first, and how many records were written since the latest
-- checkpoint, recovery or start. Whatever is lent: where it has the shape that the call asks for, it has the store's own cells. `room` says how many
-- journal bytes may be lent to a call that writes a record. Numbers are those of section 2 and a journal holds bytes, as a host's types say
-- (SizedCall, Bytes). A restart may be lent a head whose used count is old. The history is told by the answers alone: a deed counts if its answer is 0.
pub data Reached (room : ℕ → Type 0) : List Deed → ℕ → Cells → Type 0 where
  start : Reached room [] 0 empty_cells
  called : {ds : List Deed} {since : ℕ} {x : Cells} → Reached room ds since x → (c : Call) → SizedCall c → (keys values journal : List ℕ)
      → room (length journal)
      → (is_shaped x.head (length keys) (length values) (length journal) ≡ true → Holds x (end x) keys values journal)
      → (a : Reply) (head : Head) (journal' : List ℕ) → Wrote c x.head keys values journal a head journal'
      → Reached room (after a.number (Did c ∷ ds) ds) (after a.number (suc since) since)
      (after a.number (record { head = head; keys = keys; values = values; journal = journal' }) x)
  checkpointed : {ds : List Deed} {since : ℕ} {x : Cells} → Reached room ds since x → (T : ℕ) → T < 2 ^ 64 → (keys values journal : List ℕ) → Bytes journal
      → (is_shaped x.head (length keys) (length values) (length journal) ≡ true → Holds x (end x) keys values journal)
      → (a : Reply) (head : Head) (keys' values' journal' : List ℕ) → checkpoint.Checkpointed T x.head keys values journal a head keys' values' journal'
      → Reached room (after a.number (Checkpointed T ∷ ds) ds) (after a.number 0 since)
      (after a.number (record { head = head; keys = keys'; values = values'; journal = journal' }) x)
  recovered : {ds : List Deed} {since : ℕ} {x : Cells} → Reached room ds since x → (survived : ℕ) → Cut x since survived → (keys values journal : List ℕ) → Bytes journal
      → (is_recoverable x.head keys (length values) (length journal) survived ≡ true → Holds x survived keys values journal)
      → (used : ℕ) (a : Reply) (head : Head) (journal' : List ℕ) → Recovered (counting used x.head) keys values journal survived a head journal'
      → Reached room (after a.number (restarted (lost x survived) ds) ds) (after a.number 0 since)
      (after a.number (record { head = head; keys = keys; values = values; journal = journal' }) x)
