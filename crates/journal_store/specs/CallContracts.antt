-- The contracts of the calls: the answer, the head and every lent cell, for a store of any shape. Assumes nothing.
use Rattle.std.specs.Prelude.{◌≡◌, Bool, true, cond, ◌&&◌, not, List, ◌++◌, [], ◌∷◌, ℕ, ◌*◌, ◌≤◌, ◌/◌, ◌<◌, eqb, ltb, leb, length, drop, take, Some, None, Option, Result, MatchResult}
use Rattle.rules.specs.declared.Record.{Record}
use Rattle.rules.specs.Kinds.{record_size}
use Rattle.rules.specs.Calls.{Store, Call, answer, record_of, gives, value_of, read_of, read_refusal, lookup_refusal, list_of, list_answer, checkpoint_answer, kept_of}
use Rattle.rules.specs.Lists.{row_keys}
use Rattle.rules.specs.Columns.{row_values, Filled}
use Rattle.rules.specs.Values.{Row}
use Rattle.rules.specs.Limits.{most_records, most_rows}
use Rattle.rules.specs.Recovery.{walk, survivors}
use Rattle.record.specs.Bytes.{appended, records_in}
use Rattle.answer.specs.declared.Refusal.{Refusal}
use Rattle.answer.specs.declared.Refusal.TheVariants.{BadShape, NoRoom}
use Rattle.answer.specs.Reply.{Reply, refused, told, after, accepted}
use Rattle.compact.specs.Compact.{compacted}
use Rattle.journal_store.specs.declared.Head.{Head}
use Rattle.journal_store.specs.Shape.{is_shaped, room_of, meaning, row_room}
use Rattle.journal_store.specs.Heads.{grown, checkpoint_head, recovered_head}

-- an accepted record is written behind the used ones and counted; otherwise nothing changes
pub record Put (h : Head) (j : List ℕ) (accepted : Bool) (r : Record) (head : Head) (exit : List ℕ) : Type 0 where
  pub headed : head ≡ cond accepted (grown h) h
  pub cells : exit ≡ cond accepted (appended j h.journal.used r) j

-- what a store of good shape with so much room answers
pub record Decided (c : Call) (room : ℕ) (s : Store) (a : Reply) : Type 0 where
  pub reply : a ≡ told (answer room c s) (gives c s)

-- the number that a call gets
abbrev pub number : Call → Head → List ℕ → List ℕ → List ℕ → ℕ
number c h keys values j =
    cond (is_shaped h (length keys) (length values) (length j)) (answer (room_of (length j)) c (meaning h keys values j)) 1

-- what a call answers to a store of any shape
pub record Told (c : Call) (h : Head) (keys values j : List ℕ) (a : Reply) : Type 0 where
  pub reply : a ≡ told (number c h keys values j) (gives c (meaning h keys values j))

-- the answer; the head and the journal's bytes with one record more where the call is accepted, and as they were where it is refused
pub record Wrote (c : Call) (h : Head) (keys values j : List ℕ) (a : Reply) (head : Head) (exit : List ℕ) : Type 0 where
  pub reply : a ≡ told (number c h keys values j) (gives c (meaning h keys values j))
  pub headed : head ≡ after (number c h keys values j) (grown h) h
  pub cells : exit ≡ after (number c h keys values j) (appended j h.journal.used (record_of c (meaning h keys values j))) j

-- what a store of good shape answers to a read of k in transaction n
abbrev pub read_decided : ℕ → ℕ → Store → Reply
read_decided n k s = told (read_refusal n k s) (read_of n k s)

-- what a store of good shape answers to a lookup of k at t
abbrev pub lookup_decided : ℕ → ℕ → Store → Reply
lookup_decided k t s = told (lookup_refusal k t s) (value_of k t s)

-- what any store answers: 1 where its shape is bad
abbrev pub shaped_reply : Head → List ℕ → List ℕ → List ℕ → (Store → Reply) → Reply
shaped_reply h keys values j decided =
    cond (is_shaped h (length keys) (length values) (length j)) (decided (meaning h keys values j)) (refused BadShape)

-- what a store of good shape answers where so many rows are lent
abbrev pub list_decided : ℕ → ℕ → Store → Reply
list_decided room t s = told (list_answer room t s) (Some (length (list_of t s)))

-- the shape test of list also asks that its own two columns are paired
abbrev pub is_list_shaped : Head → ℕ → ℕ → ℕ → ℕ → ℕ → Bool
is_list_shaped h keys values bytes listed contents = eqb listed contents && is_shaped h keys values bytes

-- the number that list gets
abbrev pub list_number : Head → List ℕ → List ℕ → List ℕ → ℕ → ℕ → ℕ → ℕ
list_number h keys values j t listed contents =
    cond (is_list_shaped h (length keys) (length values) (length j) listed contents) (list_answer listed t (meaning h keys values j)) 1

-- the count of rows; the columns with the rows at their front where the call is accepted, and as they were where it is refused
pub record ListedBy (h : Head) (keys values j : List ℕ) (t : ℕ) (listed contents : List ℕ) (a : Reply) (listed' contents' : List ℕ) : Type 0 where
  pub reply : a ≡ told (list_number h keys values j t (length listed) (length contents)) (Some (length (list_of t (meaning h keys values j))))
  pub keys_column :
      listed'
      ≡ after (list_number h keys values j t (length listed) (length contents))
      (row_keys (list_of t (meaning h keys values j)) ++ drop (length (list_of t (meaning h keys values j))) listed) listed
  pub values_column :
      contents'
      ≡ after (list_number h keys values j t (length listed) (length contents))
      (row_values (list_of t (meaning h keys values j)) ++ drop (length (list_of t (meaning h keys values j))) contents) contents

-- the same of a store of good shape, whatever it is made from
pub record ListedOf (s : Store) (t : ℕ) (listed contents : List ℕ) (a : Reply) (listed' contents' : List ℕ) : Type 0 where
  pub reply : a ≡ list_decided (length listed) t s
  pub keys_column : listed' ≡ after a.number (row_keys (list_of t s) ++ drop (length (list_of t s)) listed) listed
  pub values_column : contents' ≡ after a.number (row_values (list_of t s) ++ drop (length (list_of t s)) contents) contents

-- the number that checkpoint gets
abbrev pub checkpoint_number : ℕ → Head → List ℕ → List ℕ → List ℕ → ℕ
checkpoint_number t h keys values j =
    cond (is_shaped h (length keys) (length values) (length j)) (checkpoint_answer (row_room (length keys)) t (meaning h keys values j)) 1

-- where the call is accepted: the head, the rows of the list at the front of the base, the records kept at the front of the journal and zeros to
-- the end of those that were used; where it is refused: all as it was
pub record Checkpointed (t : ℕ) (h : Head) (keys values j : List ℕ) (a : Reply) (head : Head) (keys' values' exit : List ℕ) : Type 0 where
  pub reply : a ≡ told (checkpoint_number t h keys values j) None
  pub headed : head ≡ after (checkpoint_number t h keys values j) (checkpoint_head t (meaning h keys values j)) h
  pub keys_column :
      keys'
      ≡ after (checkpoint_number t h keys values j)
      (row_keys (list_of t (meaning h keys values j)) ++ drop (length (list_of t (meaning h keys values j))) keys) keys
  pub values_column :
      values'
      ≡ after (checkpoint_number t h keys values j)
      (row_values (list_of t (meaning h keys values j)) ++ drop (length (list_of t (meaning h keys values j))) values) values
  pub cells :
      exit ≡ after (checkpoint_number t h keys values j) (compacted (kept_of t (meaning h keys values j)) (h.journal.used * record_size) j) j

-- a list's rows at the front of two columns, and how many they are
pub record Fits (room : ℕ) (rows : List Row) (keys values keys' values' : List ℕ) (n : ℕ) : Type 0 where
  pub count : n ≡ length rows
  pub fits : n ≤ room
  pub filled : Filled rows keys values keys' values'

-- a list that has more rows than there is room for: refused, and the columns are as they were
pub record TooLong (room : ℕ) (rows : List Row) (keys values keys' values' : List ℕ) (e : Refusal) : Type 0 where
  pub long : room < length rows
  pub refusal : e ≡ NoRoom
  pub keys_left : keys' ≡ keys
  pub values_left : values' ≡ values

-- the one or the other
abbrev pub Settled : ℕ → List Row → List ℕ → List ℕ → Result ℕ Refusal → List ℕ → List ℕ → Type 0
Settled room rows keys values r keys' values' = MatchResult r (Fits room rows keys values keys' values') (TooLong room rows keys values keys' values')

-- keys strictly rise, all above m
abbrev pub rising_keys : ℕ → List ℕ → Bool
rising_keys m [] = true
rising_keys m (k ∷ ks) = ltb m k && rising_keys k ks

-- the most bytes that a journal has
abbrev pub journal_bytes : ℕ
journal_bytes = most_records * record_size

-- section 6, number 1, for recover: the used count is ignored, the surviving bytes are within limit and buffer, base keys strictly rise from 1
abbrev pub is_recoverable : Head → List ℕ → ℕ → ℕ → ℕ → Bool
is_recoverable h keys values bytes survived =
    leb h.base.rows most_rows
    && (leb h.base.rows (length keys)
    && (eqb (length keys) values
    && (leb survived journal_bytes
    && (leb survived bytes && (not (eqb h.floor 0) && rising_keys 0 (take h.base.rows keys))))))

-- the whole records among the surviving bytes, the newest first: a tail of fewer than 24 bytes is ignored
abbrev pub surviving : ℕ → List ℕ → List Record
surviving survived j = records_in (survived / record_size) j

-- accepted, or refusal 13 with the place of the first record that fails
abbrev pub walked_reply : Option ℕ → Reply
walked_reply None = accepted None
walked_reply (Some i) = record { number = 13; value = Some i }

-- what recover answers
abbrev pub recover_reply : Head → List ℕ → List ℕ → List ℕ → ℕ → Reply
recover_reply h keys values j survived =
    cond (is_recoverable h keys (length values) (length j) survived) (walked_reply (walk h.low (surviving survived j))) (refused BadShape)

-- where the call is accepted: the head, and the records of transactions with a commit at the front of the journal, zeros to the end of what
-- survived; where it is refused: all as it was
pub record Recovered (h : Head) (keys values j : List ℕ) (survived : ℕ) (a : Reply) (head : Head) (exit : List ℕ) : Type 0 where
  pub reply : a ≡ recover_reply h keys values j survived
  pub headed : head ≡ after (recover_reply h keys values j survived).number (recovered_head h (surviving survived j)) h
  pub cells : exit ≡ after (recover_reply h keys values j survived).number (compacted (survivors (surviving survived j)) survived j) j

-- what a shape that can be recovered lends
pub record Recoverable (bytes survived : ℕ) : Type 0 where
  pub few : survived / record_size ≤ most_records
  pub there : survived / record_size * record_size ≤ survived
  pub within : survived ≤ bytes
