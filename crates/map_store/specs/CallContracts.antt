-- The contracts of the calls: the answer, the head and every lent column, for a store of any shape. Assumes nothing.
use Rattle.std.specs.Prelude.{◌≡◌, cond, List, ◌++◌, ℕ, eqb, length, drop, Some, None}
use Rattle.rules.specs.Lists.{row_keys}
use Rattle.rules.specs.Columns.{row_values}
use Rattle.rules.specs.Calls.{Call, Commit}
use Rattle.answer.specs.Reply.{Reply, told, after}
use Rattle.slot.specs.Slots.{slot_of}
use Rattle.versions.specs.Versions.{Columns, versions_of, value_at, list_at}
use Rattle.versions.specs.Columns.{thinned}
use Rattle.map_store.specs.declared.MapHead.{MapHead}
use Rattle.map_store.specs.Meaning.{MapStore, map_answer, gives, read_refusal, read_in, lookup_refusal, list_answer, checkpoint_refusal, newest_value}
use Rattle.map_store.specs.Shape.{lengths, is_shaped, room_of, meaning}
use Rattle.map_store.specs.Heads.{head_after, rows_in, stamped, kept_head}

-- the number of a call on lent cells: 1 where the shape is bad, else what it gets on their meaning
abbrev pub shaped_number : MapHead → Columns → (MapStore → ℕ) → ℕ
shaped_number h cs number = cond (is_shaped h (lengths cs)) (number (meaning h cs)) 1

-- the number that begin, update, abort and commit get
abbrev pub number : Call → MapHead → Columns → ℕ
number c h cs = shaped_number h cs (map_answer (room_of (length cs.keys)) c)

-- what a store of good shape with so much room answers
pub record Decided (c : Call) (room : ℕ) (m : MapStore) (a : Reply) : Type 0 where
  pub reply : a ≡ told (map_answer room c m) (gives c m)

-- begin, update, abort: the answer, and the head as an accepted call makes it, or as it was
pub record Answered (c : Call) (h : MapHead) (cs : Columns) (a : Reply) (head : MapHead) : Type 0 where
  pub reply : a ≡ told (number c h cs) (gives c (meaning h cs))
  pub headed : head ≡ after (number c h cs) (head_after c h) h

-- commit: the same, and a version for each key behind the used rows of the columns, or the columns as they were
pub record Committed (n t : ℕ) (h : MapHead) (cs : Columns) (a : Reply) (head : MapHead) (cs' : Columns) : Type 0 where
  pub answered : Answered (Commit n t) h cs a head
  pub cells : cs' ≡ after (number (Commit n t) h cs) (stamped (newest_value (meaning h cs)) h.used t (rows_in h.slots (slot_of h.slots n)) cs) cs

-- read and lookup: the value, or absent
abbrev pub read_reply : ℕ → ℕ → MapHead → Columns → Reply
read_reply n k h cs = told (shaped_number h cs (read_refusal n k)) (read_in n k (meaning h cs))

abbrev pub lookup_reply : ℕ → ℕ → MapHead → Columns → Reply
lookup_reply k t h cs = told (shaped_number h cs (lookup_refusal k t)) (value_at k t (versions_of h.used cs))

-- the number that list gets: its two columns too must be paired
abbrev pub list_number : ℕ → MapHead → Columns → List ℕ → List ℕ → ℕ
list_number t h cs oks ovs =
    cond (eqb (length oks) (length ovs)) (shaped_number h cs (list_answer (length oks) t)) 1

-- list: the count of rows, and the rows in front of what stood in its columns
pub record ListedAt (t : ℕ) (h : MapHead) (cs : Columns) (oks ovs : List ℕ) (a : Reply) (oks' ovs' : List ℕ) : Type 0 where
  pub reply : a ≡ told (list_number t h cs oks ovs) (Some (length (list_at (versions_of h.used cs) t)))
  pub keys : oks' ≡ after (list_number t h cs oks ovs) (row_keys (list_at (versions_of h.used cs) t) ++ drop (length (list_at (versions_of h.used cs) t)) oks) oks
  pub values : ovs' ≡ after (list_number t h cs oks ovs) (row_values (list_at (versions_of h.used cs) t) ++ drop (length (list_at (versions_of h.used cs) t)) ovs) ovs

-- the number that checkpoint gets
abbrev pub checkpoint_number : ℕ → MapHead → Columns → ℕ
checkpoint_number t h cs = shaped_number h cs (checkpoint_refusal t)

-- checkpoint: the versions kept stand in front, in order, the freed rows are zero
pub record Checkpointed (t : ℕ) (h : MapHead) (cs : Columns) (a : Reply) (head : MapHead) (cs' : Columns) : Type 0 where
  pub reply : a ≡ told (checkpoint_number t h cs) None
  pub headed : head ≡ after (checkpoint_number t h cs) (kept_head t h (versions_of h.used cs)) h
  pub cells : cs' ≡ after (checkpoint_number t h cs) (thinned t h.used cs) cs
