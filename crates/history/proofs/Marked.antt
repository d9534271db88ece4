-- Section 8: the eleven marked examples, from figure 7 (b) and (c) with x as key 1 and y as key 2, as one table under one claim. An example is its calls on
-- two empty stores, a lookup, and what it gives; the claim has what each store answers to the lookup, shape test and all, behind the calls on lent cells.
-- What the calls make of the cells is what their contracts say (`called_on_lem`, `noted_by`, `versioned_by`). Assumes nothing.
use Rattle.std.specs.Prelude.{◌≡◌, refl, List, [], ◌∷◌, ℕ, eqb, replicate, Some, None}
use Rattle.rules.specs.declared.Effect.TheVariants.{Assign, Add}
use Rattle.rules.specs.Calls.{Call, Begin, Update, Abort, Commit, record_of, gives}
use Rattle.rules.specs.Bools.{split}
use Rattle.record.specs.Bytes.{appended}
use Rattle.answer.specs.Reply.{Reply, accepted, told, after}
use Rattle.slot.specs.Slots.{slot_of, first_slot, lowest_free}
use Rattle.slot.specs.Places.{places_of}
use Rattle.versions.specs.Versions.{columns}
use Rattle.map_store.specs.Meaning.{newest_value}
use Rattle.journal_store.specs.Shape.{empty_head}
use Rattle.journal_store.specs.Heads.{grown}
use Rattle.journal_store.specs.CallContracts.{number, Wrote, lookup_decided, shaped_reply}
use Rattle.map_store.specs.Heads.{head_after, rows_in, stamped}
use Rattle.map_store.specs.CallContracts.{Answered, Committed, lookup_reply}
use Rattle.history.specs.Cells.{Cells, meaning_of}
use Rattle.history.specs.MapCells.{MapCells, map_meaning_of}
use Rattle.map_store.specs.Shape as map
use Rattle.map_store.specs.CallContracts as contract
use Rattle.map_store.specs.Meaning as meaning

-- what a call makes of the cells of a journal store
abbrev called_on : Call → Cells → Cells
called_on c x =
    after (number c x.head x.keys x.values x.journal)
    (record {
      head = grown x.head;
      keys = x.keys;
      values = x.values;
      journal = appended x.journal x.head.journal.used (record_of c (meaning_of x));
    })
    x

called_on_lem : (c : Call) (x : Cells)
    → Wrote c x.head x.keys x.values x.journal (told (number c x.head x.keys x.values x.journal) (gives c (meaning_of x)))
    (called_on c x).head (called_on c x).journal
called_on_lem c x =
    let n = number c x.head x.keys x.values x.journal in
    record { reply = refl; headed = split (eqb n 0) (λ e. rw e) (λ e. rw e); cells = split (eqb n 0) (λ e. rw e) (λ e. rw e) }

-- journal room for 20 records
abbrev journal_after : List Call → Cells
journal_after [] = record { head = empty_head; keys = []; values = []; journal = replicate 480 0 }
journal_after (c ∷ cs) = called_on c (journal_after cs)

-- what a begin, an update or an abort makes of a map store: no column changes
abbrev noted : Call → MapCells → MapCells
noted c x =
    after (contract.number c x.head x.columns)
    (record { head = head_after c x.head; columns = x.columns })
    x

-- what a call makes of the cells of a map store
abbrev versioned : Call → MapCells → MapCells
versioned (Begin t) x = noted (Begin t) x
versioned (Update n k e) x = noted (Update n k e) x
versioned (Abort n) x = noted (Abort n) x
versioned (Commit n t) x =
    let rows = rows_in x.head.slots (slot_of x.head.slots n) in
    after (contract.number (Commit n t) x.head x.columns)
    (record {
      head = head_after (Commit n t) x.head;
      columns = stamped (newest_value (map_meaning_of x)) x.head.used t rows x.columns;
    })
    x

noted_by : (c : Call) (x : MapCells)
    → Answered c x.head x.columns (told (contract.number c x.head x.columns) (meaning.gives c (map_meaning_of x))) (noted c x).head
noted_by c x =
    let n = contract.number c x.head x.columns in
    record { reply = refl; headed = split (eqb n 0) (λ e. rw e) (λ e. rw e) }

versioned_by : (n t : ℕ) (x : MapCells)
    → Committed n t x.head x.columns (told (contract.number (Commit n t) x.head x.columns) (meaning.gives (Commit n t) (map_meaning_of x)))
    (versioned (Commit n t) x).head (versioned (Commit n t) x).columns
versioned_by n t x =
    let i = contract.number (Commit n t) x.head x.columns in
    record {
      answered = record { reply = refl; headed = split (eqb i 0) (λ e. rw e) (λ e. rw e) };
      cells = split (eqb i 0) (λ e. rw e) (λ e. rw e);
    }

-- room for 8 versions
abbrev map_after : List Call → MapCells
map_after [] = record { head = map.empty_head; columns = columns (replicate 8 0) (replicate 8 0) (replicate 8 0) (replicate 8 0) }
map_after (c ∷ cs) = versioned c (map_after cs)

-- commits at 1 to 6: x=0; y=0; x+4 and y=0; x+1; x-3; x+2. The newest call first
abbrev figure : List Call
figure =
    Commit 6 6 ∷ Update 6 1 (Add 2) ∷ Begin 5
    ∷ Commit 5 5 ∷ Update 5 1 (Add 4294967293) ∷ Begin 4
    ∷ Commit 4 4 ∷ Update 4 1 (Add 1) ∷ Begin 3
    ∷ Commit 3 3 ∷ Update 3 2 (Assign 0) ∷ Update 3 1 (Add 4) ∷ Begin 2
    ∷ Commit 2 2 ∷ Update 2 2 (Assign 0) ∷ Begin 1
    ∷ Commit 1 1 ∷ Update 1 1 (Assign 0) ∷ Begin 0
    ∷ []

-- a register that holds 4,294,967,295, and add 1
abbrev full : List Call
full = Commit 2 2 ∷ Update 2 1 (Add 1) ∷ Begin 1 ∷ Commit 1 1 ∷ Update 1 1 (Assign 4294967295) ∷ Begin 0 ∷ []

-- a lookup of a key at a time behind some calls, and what it gives
pub record Example : Type 0 where
  pub calls : List Call
  pub key : ℕ
  pub time : ℕ
  pub gives : Reply

abbrev pub table : List Example
table =
    record { calls = figure; key = 1; time = 0; gives = accepted None }
    ∷ record { calls = figure; key = 1; time = 1; gives = accepted (Some 0) }
    ∷ record { calls = figure; key = 1; time = 2; gives = accepted (Some 0) }
    ∷ record { calls = figure; key = 1; time = 3; gives = accepted (Some 4) }
    ∷ record { calls = figure; key = 1; time = 4; gives = accepted (Some 5) }
    ∷ record { calls = figure; key = 1; time = 5; gives = accepted (Some 2) }
    ∷ record { calls = figure; key = 1; time = 6; gives = accepted (Some 4) }
    ∷ record { calls = figure; key = 2; time = 1; gives = accepted None }
    ∷ record { calls = figure; key = 2; time = 3; gives = accepted (Some 0) }
    ∷ record { calls = figure; key = 2; time = 7; gives = record { number = 5; value = None } }
    ∷ record { calls = full; key = 1; time = 2; gives = accepted (Some 0) }
    ∷ []

-- the lookup of an example in both stores
abbrev pub answered : Example → Reply × Reply
answered e =
    let x = journal_after e.calls in
    let m = map_after e.calls in
    (shaped_reply x.head x.keys x.values x.journal (lookup_decided e.key e.time), lookup_reply e.key e.time m.head m.columns)

abbrev pub answers : List Example → List (Reply × Reply)
answers [] = []
answers (e ∷ es) = answered e ∷ answers es

-- what the table says that they give
abbrev pub given : List Example → List (Reply × Reply)
given [] = []
given (e ∷ es) = (e.gives, e.gives) ∷ given es

-- every marked example holds
pub marked : answers table ≡ given table
unfolding first_slot lowest_free places_of
marked = refl

-- two writers of one counter: both begin at 1, add 3 and 4, and commit at 2 and 3; the third begins at 1 too, assigns, and is refused
abbrev shared : List Call
shared =
    Commit 4 4 ∷ Commit 3 3 ∷ Commit 2 2 ∷ Update 4 1 (Assign 9) ∷ Update 3 1 (Add 4) ∷ Update 2 1 (Add 3) ∷ Begin 1 ∷ Begin 1 ∷ Begin 1
    ∷ Commit 1 1 ∷ Update 1 1 (Assign 10) ∷ Begin 0
    ∷ []

abbrev pub counter : List Example
counter =
    record { calls = shared; key = 1; time = 1; gives = accepted (Some 10) }
    ∷ record { calls = shared; key = 1; time = 2; gives = accepted (Some 13) }
    ∷ record { calls = shared; key = 1; time = 3; gives = accepted (Some 17) }
    ∷ record { calls = shared; key = 1; time = 4; gives = record { number = 5; value = None } }
    ∷ []

-- both totals stand in both stores
pub shared_counter : answers counter ≡ given counter
unfolding first_slot lowest_free places_of
shared_counter = refl
