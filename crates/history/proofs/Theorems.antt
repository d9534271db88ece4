-- The demands, for a reader: each theorem with its whole signature; the proofs are in the files that are named. What has to be believed stands in
-- History, Refusals, Adders and Lawful (what the user's words mean), Cells and MapCells (what a sequence of calls is), without_checkpoints (Silence), the contracts
-- that these cite, and what the history shares with the rules: applied, or_zero, listed, row_value, among, with_room and the limits. Assumes nothing.
use Rattle.std.specs.Prelude.{◌≡◌, true, false, ◌&&◌, List, [], ◌∷◌, ◌++◌, ◌≢◌, ℕ, ◌+◌, ◌*◌, ◌<◌, ◌≤◌, length, drop, Some, None}
use Rattle.rules.specs.declared.Effect.TheVariants.{Assign}
use Rattle.rules.specs.Kinds.{record_size}
use Rattle.rules.specs.Effects.{or_zero}
use Rattle.rules.specs.Values.{row_value}
use Rattle.rules.specs.Lists.{among}
use Rattle.rules.specs.Calls.{Call, Update, Abort, Commit, with_room}
use Rattle.record.specs.Bytes.{Bytes}
use Rattle.answer.specs.Reply.{Reply, accepted, told}
use Rattle.journal_store.specs.declared.Head.{Head}
use Rattle.journal_store.specs.Shape.{room_of, row_room}
use Rattle.journal_store.specs.CallContracts.{Wrote, read_decided, lookup_decided, shaped_reply, ListedBy, Recovered}
use Rattle.versions.specs.Versions.{Columns}
use Rattle.map_store.specs.declared.MapHead.{MapHead}
use Rattle.map_store.specs.CallContracts.{read_reply, lookup_reply, ListedAt}
use Rattle.history.specs.History.{Commitment, Deed, Did, Checkpointed, numbers, changes_of, snapshot_of, history, restarted, value_in, reads, list_in, changes, without_checkpoints}
use Rattle.history.specs.Refusals.{only_adds, conflicts_with, last_in, gives_in, deed_gives, number_in, map_number_in, lookup_number, read_number, time_refused, refusal_in}
use Rattle.history.specs.Adders.{total, ShareCounters, Raises, raised_by, written_between, Cause}
use Rattle.history.specs.Lawful.{Lawful}
use Rattle.history.specs.Cells.{Cells, end, Lent, Shows, Registers, Cut, lost, counting, Reached}
use Rattle.history.specs.MapCells.{MapCells, MapLent, Does, MapReached, Given}
use Rattle.history.proofs.Demands as demands
use Rattle.history.proofs.MapDemands as map
use Rattle.history.proofs.Restarts as restarts
use Rattle.history.proofs.Endings as endings
use Rattle.history.proofs.Silence as silence
use Rattle.history.proofs.Corollaries as corollaries
use Rattle.history.proofs.Counters as counters
use Rattle.map_store.specs.Shape as shape
use Rattle.journal_store.specs.CallContracts as store

-- DEMAND 1. Every call answers for all inputs, and by the stores' Unique in one way alone; a refused call changes nothing it was lent. The other calls
-- of both stores are in Corollaries.
pub every_call_answers : (c : Call) (h : Head) (keys values j : List ℕ) → (a : Reply) × (head : Head) × (j' : List ℕ) × Wrote c h keys values j a head j'
every_call_answers = corollaries.every_call_answers

pub every_map_call_answers : (d : Deed) (h : MapHead) (cs : Columns)
    → (a : Reply) × (head : MapHead) × (cs' : Columns) × Does h cs a head d cs'
every_map_call_answers = corollaries.every_map_call_answers

pub a_refused_call_changes_nothing : (c : Call) (h : Head) (keys values j : List ℕ) (a : Reply) (head : Head) (j' : List ℕ)
    → Wrote c h keys values j a head j' → a.number ≢ 0 → (head ≡ h) × (j' ≡ j)
a_refused_call_changes_nothing = corollaries.a_refused_call_changes_nothing

pub a_refused_map_call_changes_nothing : {d : Deed} (h : MapHead) (cs : Columns) (a : Reply) (head : MapHead) {cs' : Columns}
    → Does h cs a head d cs' → a.number ≢ 0 → (head ≡ h) × (cs' ≡ cs)
a_refused_map_call_changes_nothing = corollaries.a_refused_map_call_changes_nothing

-- The number of every call is the one that the history gives, and an accepted begin gets the next number.
pub calls_answer : {room : ℕ → Type 0} {ds : List Deed} {since : ℕ} {x : Cells} → Reached room ds since x → (keys values journal : List ℕ)
    → Lent x (end x) keys values journal → (c : Call) (a : Reply) (head : Head) (journal' : List ℕ) → Wrote c x.head keys values journal a head journal'
    → a ≡ told (number_in x.head.journal.used (room_of (length journal)) c (history ds)) (gives_in c (history ds))
calls_answer = demands.calls_answer

pub map_answers : {ds : List Deed} {m : MapCells} → MapReached ds m → (cs : Columns) → MapLent m cs → {d : Deed} (a : Reply) (head : MapHead)
    {cs' : Columns} → Does m.head cs a head d cs'
    → a ≡ told (map_number_in m.head.used (shape.room_of (length cs.keys)) d (history ds)) (deed_gives d (history ds))
map_answers = map.map_answers

pub checkpoint_answers : {room : ℕ → Type 0} {ds : List Deed} {since : ℕ} {x : Cells} → Reached room ds since x → (keys values journal : List ℕ)
    → Lent x (end x) keys values journal → (T : ℕ) (a : Reply) (head : Head) (keys' values' journal' : List ℕ)
    → store.Checkpointed T x.head keys values journal a head keys' values' journal'
    → a ≡ told (with_room (refusal_in (Checkpointed T) (history ds)) (length (list_in (history ds).commitments T)) (row_room (length keys))) None
checkpoint_answers = demands.checkpoint_answers

-- DEMAND 2. A value looked up is the history's, at every time; a value read has the reader's own changes besides.
pub looks_up_the_history : {room : ℕ → Type 0} {ds : List Deed} {since : ℕ} {x : Cells} → Reached room ds since x → (keys values journal : List ℕ)
    → Lent x (end x) keys values journal → (k t : ℕ)
    → shaped_reply x.head keys values journal (lookup_decided k t) ≡ told (lookup_number k t (history ds)) (value_in (history ds).commitments t k)
looks_up_the_history = demands.looks_up_the_history

pub map_looks_up_the_history : {ds : List Deed} {m : MapCells} → MapReached ds m → (cs : Columns) → MapLent m cs → (k t : ℕ)
    → lookup_reply k t m.head cs ≡ told (lookup_number k t (history ds)) (value_in (history ds).commitments t k)
map_looks_up_the_history = map.map_looks_up_the_history

pub reads_the_history : {room : ℕ → Type 0} {ds : List Deed} {since : ℕ} {x : Cells} → Reached room ds since x → (keys values journal : List ℕ)
    → Lent x (end x) keys values journal → (n k : ℕ)
    → shaped_reply x.head keys values journal (read_decided n k) ≡ told (read_number n k (history ds)) (reads (history ds) n k)
reads_the_history = demands.reads_the_history

pub map_reads_the_history : {ds : List Deed} {m : MapCells} → MapReached ds m → (cs : Columns) → MapLent m cs → (n k : ℕ)
    → read_reply n k m.head cs ≡ told (read_number n k (history ds)) (reads (history ds) n k)
map_reads_the_history = map.map_reads_the_history

-- Recovery reads back what the calls wrote: it accepts, and every list at every time, refused ones too, is what it was.
pub recovery_accepts : {room : ℕ → Type 0} {ds : List Deed} {since : ℕ} {x : Cells} → Reached room ds since x → (keys values journal : List ℕ)
    → Lent x (end x) keys values journal → Bytes journal → (used : ℕ) (a : Reply) (head : Head) (journal' : List ℕ)
    → Recovered (counting used x.head) keys values journal (end x) a head journal' → a ≡ accepted None
recovery_accepts = restarts.recovery_accepts

pub recovery_reads_back : {room : ℕ → Type 0} {ds : List Deed} {since : ℕ} {x : Cells} → Reached room ds since x → (keys values journal : List ℕ)
    → Lent x (end x) keys values journal → Bytes journal → (used : ℕ) (a : Reply) (head : Head) (journal' : List ℕ)
    → Recovered (counting used x.head) keys values journal (end x) a head journal' → (t : ℕ) (listed contents : List ℕ)
    → length listed ≡ length contents → (b b' : Reply) (listed₁ contents₁ listed₂ contents₂ : List ℕ)
    → ListedBy x.head keys values journal t listed contents b listed₁ contents₁
    → ListedBy head keys values journal' t listed contents b' listed₂ contents₂
    → (b ≡ b') × (listed₁ ≡ listed₂) × (contents₁ ≡ contents₂)
recovery_reads_back = restarts.recovery_reads_back

-- Recovering again, from a cut too and from a head whose used count is old, changes neither head nor cell.
pub recovering_again : {room : ℕ → Type 0} {ds : List Deed} {since : ℕ} {x : Cells} → Reached room ds since x → (survived : ℕ) → Cut x since survived
    → (keys values journal : List ℕ) → Lent x survived keys values journal → Bytes journal → (used : ℕ) (a : Reply) (head : Head) (journal' : List ℕ)
    → Recovered (counting used x.head) keys values journal survived a head journal' → (old : ℕ) (b : Reply) (head' : Head) (journal'' : List ℕ)
    → Recovered (counting old head) keys values journal' (head.journal.used * record_size) b head' journal''
    → (b ≡ accepted None) × (head' ≡ head) × (journal'' ≡ journal')
recovering_again = restarts.recovering_again

-- DEMAND 3. Over any sequence, at every time from low to last, a list with room enough has a count n, and exactly the history's registers in n rows.
pub every_listing : {room : ℕ → Type 0} {ds : List Deed} {since : ℕ} {x : Cells} → Reached room ds since x → (keys values journal : List ℕ)
    → Lent x (end x) keys values journal → (t : ℕ) → (history ds).low ≤ t → t ≤ last_in (history ds) → (listed contents : List ℕ)
    → length listed ≡ length contents → length (list_in (history ds).commitments t) ≤ length listed → (a : Reply) (listed' contents' : List ℕ)
    → ListedBy x.head keys values journal t listed contents a listed' contents'
    → (n : ℕ) × (a ≡ accepted (Some n)) × Registers (history ds).commitments t n listed' contents'
every_listing = demands.every_listing

pub map_every_listing : {ds : List Deed} {m : MapCells} → MapReached ds m → (cs : Columns) → MapLent m cs → (t : ℕ) → (history ds).low ≤ t
    → t ≤ last_in (history ds) → (listed contents : List ℕ) → length listed ≡ length contents → length (list_in (history ds).commitments t) ≤ length listed
    → (a : Reply) (listed' contents' : List ℕ) → ListedAt t m.head cs listed contents a listed' contents'
    → (n : ℕ) × (a ≡ accepted (Some n)) × Registers (history ds).commitments t n listed' contents'
map_every_listing = map.map_every_listing

-- Lists at other times and with less room get the history's number; rows beyond the count keep what they hold.
pub list_answers : {room : ℕ → Type 0} {ds : List Deed} {since : ℕ} {x : Cells} → Reached room ds since x → (keys values journal : List ℕ)
    → Lent x (end x) keys values journal → (t : ℕ) (listed contents : List ℕ) → length listed ≡ length contents → (a : Reply) (listed' contents' : List ℕ)
    → ListedBy x.head keys values journal t listed contents a listed' contents'
    → Shows (list_in (history ds).commitments t)
    (with_room (time_refused t (history ds) 0) (length (list_in (history ds).commitments t)) (length listed)) listed contents a listed' contents'
list_answers = demands.list_answers

pub map_list_answers : {ds : List Deed} {m : MapCells} → MapReached ds m → (cs : Columns) → MapLent m cs → (t : ℕ) (listed contents : List ℕ)
    → length listed ≡ length contents → (a : Reply) (listed' contents' : List ℕ) → ListedAt t m.head cs listed contents a listed' contents'
    → Shows (list_in (history ds).commitments t)
    (with_room (time_refused t (history ds) 0) (length (list_in (history ds).commitments t)) (length listed)) listed contents a listed' contents'
map_list_answers = map.map_list_answers

-- As if no checkpoint had been taken: two stores whose accepted deeds differ in checkpoints alone list alike, and without the checkpoints the rules refuse
-- none of the calls.
pub checkpoint_is_silent : {room room' : ℕ → Type 0} {ds ds' : List Deed} {since since' : ℕ} {x x' : Cells} → Reached room ds since x
    → Reached room' ds' since' x' → without_checkpoints ds ≡ without_checkpoints ds' → (keys values journal keys' values' journal' : List ℕ)
    → Lent x (end x) keys values journal → Lent x' (end x') keys' values' journal' → (t : ℕ) → (history ds).low ≤ t → (history ds').low ≤ t
    → (listed contents : List ℕ) → length listed ≡ length contents → (a b : Reply) (listed₁ contents₁ listed₂ contents₂ : List ℕ)
    → ListedBy x.head keys values journal t listed contents a listed₁ contents₁
    → ListedBy x'.head keys' values' journal' t listed contents b listed₂ contents₂
    → (a ≡ b) × (listed₁ ≡ listed₂) × (contents₁ ≡ contents₂)
checkpoint_is_silent = silence.checkpoint_is_silent

pub map_checkpoint_is_silent : {ds ds' : List Deed} {m m' : MapCells} → MapReached ds m → MapReached ds' m'
    → without_checkpoints ds ≡ without_checkpoints ds' → (cs cs' : Columns) → MapLent m cs → MapLent m' cs' → (t : ℕ) → (history ds).low ≤ t
    → (history ds').low ≤ t → (listed contents : List ℕ) → length listed ≡ length contents → (a b : Reply) (listed₁ contents₁ listed₂ contents₂ : List ℕ)
    → ListedAt t m.head cs listed contents a listed₁ contents₁
    → ListedAt t m'.head cs' listed contents b listed₂ contents₂
    → (a ≡ b) × (listed₁ ≡ listed₂) × (contents₁ ≡ contents₂)
map_checkpoint_is_silent = silence.map_checkpoint_is_silent

pub silent_calls : {room : ℕ → Type 0} {ds : List Deed} {since : ℕ} {x : Cells} → Reached room ds since x → Lawful (without_checkpoints ds)
silent_calls = silence.silent_calls

pub map_silent_calls : {ds : List Deed} {m : MapCells} → MapReached ds m → Lawful (without_checkpoints ds)
map_silent_calls = silence.map_silent_calls

-- The map store, given the same calls, lists the same.
pub stores_list_alike : {room : ℕ → Type 0} {ds : List Deed} {since : ℕ} {x : Cells} → Reached room ds since x → (keys values journal : List ℕ)
    → Lent x (end x) keys values journal → {m : MapCells} → MapReached ds m → (cs : Columns) → MapLent m cs → (t : ℕ) (listed contents : List ℕ)
    → length listed ≡ length contents → (a a' : Reply) (listed₁ contents₁ listed₂ contents₂ : List ℕ)
    → ListedBy x.head keys values journal t listed contents a listed₁ contents₁
    → ListedAt t m.head cs listed contents a' listed₂ contents₂
    → (a ≡ a') × (listed₁ ≡ listed₂) × (contents₁ ≡ contents₂)
stores_list_alike = map.stores_list_alike

-- It looks up and reads the same.
pub stores_look_up_alike : {room : ℕ → Type 0} {ds : List Deed} {since : ℕ} {x : Cells} → Reached room ds since x → (keys values journal : List ℕ)
    → Lent x (end x) keys values journal → {m : MapCells} → MapReached ds m → (cs : Columns) → MapLent m cs → (k t : ℕ)
    → shaped_reply x.head keys values journal (lookup_decided k t) ≡ lookup_reply k t m.head cs
stores_look_up_alike = map.stores_look_up_alike

pub stores_read_alike : {room : ℕ → Type 0} {ds : List Deed} {since : ℕ} {x : Cells} → Reached room ds since x → (keys values journal : List ℕ)
    → Lent x (end x) keys values journal → {m : MapCells} → MapReached ds m → (cs : Columns) → MapLent m cs → (n k : ℕ)
    → shaped_reply x.head keys values journal (read_decided n k) ≡ read_reply n k m.head cs
stores_read_alike = map.stores_read_alike

-- It accepts each call that a journal store accepted, unless it has no room: what a store accepted is lawful.
pub accepted_is_lawful : {room : ℕ → Type 0} {ds : List Deed} {since : ℕ} {x : Cells} → Reached room ds since x → Lawful ds
accepted_is_lawful = demands.accepted_is_lawful

pub the_map_accepts : {ds : List Deed} {m : MapCells} → MapReached ds m → (cs : Columns) → MapLent m cs → {d : Deed} → Lawful (d ∷ ds)
    → (a : Reply) (head : MapHead) {cs' : Columns} → Does m.head cs a head d cs' → a.number ≢ 12
    → a ≡ told 0 (deed_gives d (history ds))
the_map_accepts = map.the_map_accepts

-- So one that is given them one after the other, and refuses none for room, has accepted them all.
pub the_map_follows : {room : ℕ → Type 0} {ds : List Deed} {since : ℕ} {x : Cells} → Reached room ds since x → {m : MapCells} → Given ds m → MapReached ds m
the_map_follows = map.the_map_follows

-- Where one of them took checkpoints that the other refused or was not given, they list alike from both lows on.
pub stores_list_alike_between_checkpoints : {room : ℕ → Type 0} {ds ds' : List Deed} {since : ℕ} {x : Cells} {m : MapCells} → Reached room ds since x
    → MapReached ds' m → without_checkpoints ds ≡ without_checkpoints ds' → (keys values journal : List ℕ) → Lent x (end x) keys values journal
    → (cs : Columns) → MapLent m cs → (t : ℕ) → (history ds).low ≤ t → (history ds').low ≤ t → (listed contents : List ℕ) → length listed ≡ length contents
    → (a b : Reply) (listed₁ contents₁ listed₂ contents₂ : List ℕ)
    → ListedBy x.head keys values journal t listed contents a listed₁ contents₁
    → ListedAt t m.head cs listed contents b listed₂ contents₂
    → (a ≡ b) × (listed₁ ≡ listed₂) × (contents₁ ≡ contents₂)
stores_list_alike_between_checkpoints = silence.stores_list_alike_between_checkpoints

-- Call by call both answer the same number and transaction number, unless one of them has no room.
pub stores_answer_alike : {room : ℕ → Type 0} {ds : List Deed} {since : ℕ} {x : Cells} → Reached room ds since x → (keys values journal : List ℕ)
    → Lent x (end x) keys values journal → {m : MapCells} → MapReached ds m → (cs : Columns) → MapLent m cs → (c : Call) (a a' : Reply)
    (head : Head) (journal' : List ℕ) (head' : MapHead) {cs' : Columns} → Wrote c x.head keys values journal a head journal'
    → Does m.head cs a' head' (Did c) cs' → a.number ≢ 12 → a'.number ≢ 12 → a ≡ a'
stores_answer_alike = map.stores_answer_alike

-- To a checkpoint too.
pub stores_checkpoint_alike : {room : ℕ → Type 0} {ds : List Deed} {since : ℕ} {x : Cells} → Reached room ds since x → (keys values journal : List ℕ)
    → Lent x (end x) keys values journal → {m : MapCells} → MapReached ds m → (cs : Columns) → MapLent m cs → (T : ℕ) (a a' : Reply)
    (head : Head) (keys' values' journal' : List ℕ) (head' : MapHead) {cs' : Columns}
    → store.Checkpointed T x.head keys values journal a head keys' values' journal' → Does m.head cs a' head' (Checkpointed T) cs' → a.number ≢ 12 → a ≡ a'
stores_checkpoint_alike = map.stores_checkpoint_alike

-- THE CUT. At any byte from the journal's end at the latest checkpoint, recovery or empty start to its end now, whatever is lent behind it and whatever
-- used count the lent head has: recovery accepts, and the sequence goes on from what survived, with an abort for each transaction that ran.
pub the_cut_is_accepted : {room : ℕ → Type 0} {ds : List Deed} {since : ℕ} {x : Cells} → Reached room ds since x → (survived : ℕ) → Cut x since survived
    → (keys values journal : List ℕ) → Lent x survived keys values journal → Bytes journal → (used : ℕ) (a : Reply) (head : Head) (journal' : List ℕ)
    → Recovered (counting used x.head) keys values journal survived a head journal' → a ≡ accepted None
the_cut_is_accepted = restarts.the_cut_is_accepted

pub the_cut_goes_on : {room : ℕ → Type 0} {ds : List Deed} {since : ℕ} {x : Cells} → Reached room ds since x → (survived : ℕ) → Cut x since survived
    → (keys values journal : List ℕ) → Lent x survived keys values journal → Bytes journal → (used : ℕ) (a : Reply) (head : Head) (journal' : List ℕ)
    → Recovered (counting used x.head) keys values journal survived a head journal'
    → Reached room (restarted (lost x survived) ds) 0 (record { head = head; keys = keys; values = values; journal = journal' })
the_cut_goes_on = restarts.the_cut_goes_on

pub the_cut_looks_up : {room : ℕ → Type 0} {ds : List Deed} {since : ℕ} {x : Cells} → Reached room ds since x → (survived : ℕ) → Cut x since survived
    → (keys values journal : List ℕ) → Lent x survived keys values journal → Bytes journal → (used : ℕ) (a : Reply) (head : Head) (journal' : List ℕ)
    → Recovered (counting used x.head) keys values journal survived a head journal' → (keys₁ values₁ journal₁ : List ℕ)
    → Lent (record { head = head; keys = keys; values = values; journal = journal' }) (head.journal.used * record_size) keys₁ values₁ journal₁ → (k t : ℕ)
    → shaped_reply head keys₁ values₁ journal₁ (lookup_decided k t)
    ≡ told (lookup_number k t (history (drop (lost x survived) ds))) (value_in (history (drop (lost x survived) ds)).commitments t k)
the_cut_looks_up = restarts.the_cut_looks_up

pub the_cut_lists : {room : ℕ → Type 0} {ds : List Deed} {since : ℕ} {x : Cells} → Reached room ds since x → (survived : ℕ) → Cut x since survived
    → (keys values journal : List ℕ) → Lent x survived keys values journal → Bytes journal → (used : ℕ) (a : Reply) (head : Head) (journal' : List ℕ)
    → Recovered (counting used x.head) keys values journal survived a head journal' → (keys₁ values₁ journal₁ : List ℕ)
    → Lent (record { head = head; keys = keys; values = values; journal = journal' }) (head.journal.used * record_size) keys₁ values₁ journal₁ → (t : ℕ)
    (listed contents : List ℕ) → length listed ≡ length contents → (b : Reply) (listed' contents' : List ℕ)
    → ListedBy head keys₁ values₁ journal₁ t listed contents b listed' contents'
    → Shows (list_in (history (drop (lost x survived) ds)).commitments t)
    (with_room (time_refused t (history (drop (lost x survived) ds)) 0) (length (list_in (history (drop (lost x survived) ds)).commitments t)) (length listed))
    listed contents b listed' contents'
the_cut_lists = restarts.the_cut_lists

pub the_cut_ends : {room : ℕ → Type 0} {ds : List Deed} {since : ℕ} {x : Cells} → Reached room ds since x → (survived : ℕ) → Cut x since survived
    → (keys values journal : List ℕ) → Lent x survived keys values journal → Bytes journal → (used : ℕ) (a : Reply) (head : Head) (journal' : List ℕ)
    → Recovered (counting used x.head) keys values journal survived a head journal' → (history (restarted (lost x survived) ds)).runners ≡ []
the_cut_ends = restarts.the_cut_ends

-- RULE 3.11. With the same lent room throughout, a running transaction can always be ended by abort, and a commit never gets 12.
pub ending_is_possible : (bytes : ℕ) {ds : List Deed} {since : ℕ} {x : Cells} → Reached (λ n. n ≡ bytes) ds since x → (keys values journal : List ℕ)
    → Lent x (end x) keys values journal → length journal ≡ bytes → (n : ℕ) → among n (numbers (history ds).runners) ≡ true
    → (a : Reply) (head : Head) (journal' : List ℕ) → Wrote (Abort n) x.head keys values journal a head journal' → a ≡ accepted None
ending_is_possible = endings.ending_is_possible

pub abort_never_12 : (bytes : ℕ) {ds : List Deed} {since : ℕ} {x : Cells} → Reached (λ n. n ≡ bytes) ds since x → (keys values journal : List ℕ)
    → Lent x (end x) keys values journal → length journal ≡ bytes → (n : ℕ) (a : Reply) (head : Head) (journal' : List ℕ)
    → Wrote (Abort n) x.head keys values journal a head journal' → a.number ≢ 12
abort_never_12 = endings.abort_never_12

pub commit_never_12 : (bytes : ℕ) {ds : List Deed} {since : ℕ} {x : Cells} → Reached (λ n. n ≡ bytes) ds since x → (keys values journal : List ℕ)
    → Lent x (end x) keys values journal → length journal ≡ bytes → (n t : ℕ) (a : Reply) (head : Head) (journal' : List ℕ)
    → Wrote (Commit n t) x.head keys values journal a head journal' → a.number ≢ 12
commit_never_12 = endings.commit_never_12

-- TWO WRITERS, ONE COUNTER. A commit is refused with 11 because of a transaction that committed later than its snapshot and met it on a key: both changed it,
-- and not both by adds alone (meet). So a transaction with which it shares counters alone is never the cause.
pub eleven_has_a_cause : {room : ℕ → Type 0} {ds : List Deed} {since : ℕ} {x : Cells} → Reached room ds since x → (keys values journal : List ℕ)
    → Lent x (end x) keys values journal
    → (n t : ℕ) (a : Reply) (head : Head) (journal' : List ℕ)
    → Wrote (Commit n t) x.head keys values journal a head journal'
    → a.number ≡ 11 → Cause n (history ds)
eleven_has_a_cause = counters.eleven_has_a_cause

pub map_eleven_has_a_cause : {ds : List Deed} {x : MapCells} → MapReached ds x → (cs : Columns) → MapLent x cs
    → (n t : ℕ) (a : Reply) (head : MapHead) {cs' : Columns}
    → Does x.head cs a head (Did (Commit n t)) cs'
    → a.number ≡ 11 → Cause n (history ds)
map_eleven_has_a_cause = counters.map_eleven_has_a_cause

-- Of two that run together and share counters alone one commits: the other's commit gets 11 only if it would have got it before; if it would not, it is accepted too
-- at a later time, where there is room. Either may be the first.
pub a_counter_is_shared : {room : ℕ → Type 0} {ds : List Deed} {since : ℕ} {x : Cells} (n m t u : ℕ) → Reached room (Did (Commit m u) ∷ ds) since x
    → (keys values journal : List ℕ) → Lent x (end x) keys values journal → n ≢ m
    → ShareCounters (changes_of n (history ds).runners) (changes_of m (history ds).runners) → (a : Reply) (head : Head) (journal' : List ℕ)
    → Wrote (Commit n t) x.head keys values journal a head journal'
    → a.number ≡ 11 → refusal_in (Did (Commit n t)) (history ds) ≡ 11
a_counter_is_shared = counters.a_counter_is_shared

pub both_commit : {room : ℕ → Type 0} {ds : List Deed} {since : ℕ} {x : Cells} (n m t u : ℕ) → Reached room (Did (Commit m u) ∷ ds) since x
    → (keys values journal : List ℕ) → Lent x (end x) keys values journal → n ≢ m
    → ShareCounters (changes_of n (history ds).runners) (changes_of m (history ds).runners) → (a : Reply) (head : Head) (journal' : List ℕ)
    → Wrote (Commit n t) x.head keys values journal a head journal'
    → among n (numbers (history ds).runners) ≡ true → conflicts_with (history ds).commitments n (history ds).runners ≡ false
    → last_in (history ds) < t → u < t → a.number ≢ 12 → a ≡ accepted None
both_commit = counters.both_commit

pub a_map_counter_is_shared : {ds : List Deed} {x : MapCells} (n m t u : ℕ) → MapReached (Did (Commit m u) ∷ ds) x → (cs : Columns) → MapLent x cs → n ≢ m
    → ShareCounters (changes_of n (history ds).runners) (changes_of m (history ds).runners) → (a : Reply) (head : MapHead) {cs' : Columns}
    → Does x.head cs a head (Did (Commit n t)) cs'
    → a.number ≡ 11 → refusal_in (Did (Commit n t)) (history ds) ≡ 11
a_map_counter_is_shared = counters.a_map_counter_is_shared

pub both_commit_in_the_map : {ds : List Deed} {x : MapCells} (n m t u : ℕ) → MapReached (Did (Commit m u) ∷ ds) x → (cs : Columns) → MapLent x cs → n ≢ m
    → ShareCounters (changes_of n (history ds).runners) (changes_of m (history ds).runners) → (a : Reply) (head : MapHead) {cs' : Columns}
    → Does x.head cs a head (Did (Commit n t)) cs'
    → among n (numbers (history ds).runners) ≡ true → conflicts_with (history ds).commitments n (history ds).runners ≡ false
    → last_in (history ds) < t → u < t → a.number ≢ 12 → a ≡ accepted None
both_commit_in_the_map = counters.both_commit_in_the_map

-- Where two committed transactions only added to a key, and no other wrote it from a time u before the first of them up to t, its value at t is the value at u,
-- absent as 0, plus both totals, modulo 4,294,967,296. Such a u is the earlier snapshot.
pub both_totals_are_looked_up : {room : ℕ → Type 0} {ds : List Deed} {since : ℕ} {x : Cells} → Reached room ds since x → (keys values journal : List ℕ)
    → Lent x (end x) keys values journal
    → (newer : List Commitment) (second : Commitment) (between : List Commitment) (first : Commitment) (older : List Commitment)
    → (history ds).commitments ≡ newer ++ second ∷ (between ++ first ∷ older) → (k u t : ℕ) → 1 ≤ k → u < first.time → second.time ≤ t
    → (history ds).low ≤ t → t ≤ last_in (history ds) → written_between newer u t k ≡ false → written_between between u t k ≡ false
    → written_between older u t k ≡ false → Raises k first → Raises k second
    → shaped_reply x.head keys values journal (lookup_decided k t)
    ≡ accepted (Some (raised_by (or_zero (value_in (history ds).commitments u k)) (total k first.changes + total k second.changes)))
both_totals_are_looked_up = counters.both_totals_are_looked_up

pub both_totals_are_listed : {room : ℕ → Type 0} {ds : List Deed} {since : ℕ} {x : Cells} → Reached room ds since x → (keys values journal : List ℕ)
    → Lent x (end x) keys values journal
    → (newer : List Commitment) (second : Commitment) (between : List Commitment) (first : Commitment) (older : List Commitment)
    → (history ds).commitments ≡ newer ++ second ∷ (between ++ first ∷ older) → (k u t : ℕ) → 1 ≤ k → u < first.time → second.time ≤ t
    → (history ds).low ≤ t → t ≤ last_in (history ds) → written_between newer u t k ≡ false → written_between between u t k ≡ false
    → written_between older u t k ≡ false → Raises k first → Raises k second
    → (listed contents : List ℕ) → length listed ≡ length contents → length (list_in (history ds).commitments t) ≤ length listed
    → (a : Reply) (listed' contents' : List ℕ) → ListedBy x.head keys values journal t listed contents a listed' contents'
    → Shows (list_in (history ds).commitments t) 0 listed contents a listed' contents'
    × (row_value (list_in (history ds).commitments t) k
    ≡ Some (raised_by (or_zero (value_in (history ds).commitments u k)) (total k first.changes + total k second.changes)))
both_totals_are_listed = counters.both_totals_are_listed

pub map_both_totals_are_looked_up : {ds : List Deed} {x : MapCells} → MapReached ds x → (cs : Columns) → MapLent x cs
    → (newer : List Commitment) (second : Commitment) (between : List Commitment) (first : Commitment) (older : List Commitment)
    → (history ds).commitments ≡ newer ++ second ∷ (between ++ first ∷ older) → (k u t : ℕ) → 1 ≤ k → u < first.time → second.time ≤ t
    → (history ds).low ≤ t → t ≤ last_in (history ds) → written_between newer u t k ≡ false → written_between between u t k ≡ false
    → written_between older u t k ≡ false → Raises k first → Raises k second
    → lookup_reply k t x.head cs
    ≡ accepted (Some (raised_by (or_zero (value_in (history ds).commitments u k)) (total k first.changes + total k second.changes)))
map_both_totals_are_looked_up = counters.map_both_totals_are_looked_up

pub map_both_totals_are_listed : {ds : List Deed} {x : MapCells} → MapReached ds x → (cs : Columns) → MapLent x cs
    → (newer : List Commitment) (second : Commitment) (between : List Commitment) (first : Commitment) (older : List Commitment)
    → (history ds).commitments ≡ newer ++ second ∷ (between ++ first ∷ older) → (k u t : ℕ) → 1 ≤ k → u < first.time → second.time ≤ t
    → (history ds).low ≤ t → t ≤ last_in (history ds) → written_between newer u t k ≡ false → written_between between u t k ≡ false
    → written_between older u t k ≡ false → Raises k first → Raises k second
    → (listed contents : List ℕ) → length listed ≡ length contents → length (list_in (history ds).commitments t) ≤ length listed
    → (a : Reply) (listed' contents' : List ℕ) → ListedAt t x.head cs listed contents a listed' contents'
    → Shows (list_in (history ds).commitments t) 0 listed contents a listed' contents'
    × (row_value (list_in (history ds).commitments t) k
    ≡ Some (raised_by (or_zero (value_in (history ds).commitments u k)) (total k first.changes + total k second.changes)))
map_both_totals_are_listed = counters.map_both_totals_are_listed

-- An adder and an assigner of one key, or two assigners, still conflict, whichever commits first.
pub an_assign_conflicts : {room : ℕ → Type 0} {ds : List Deed} {since : ℕ} {x : Cells} → Reached room ds since x → (keys values journal : List ℕ)
    → Lent x (end x) keys values journal
    → (newer : List Commitment) (c : Commitment) (older : List Commitment) → (history ds).commitments ≡ newer ++ c ∷ older → (n t : ℕ)
    → among n (numbers (history ds).runners) ≡ true → snapshot_of n (history ds).runners < c.time → last_in (history ds) < t → (k : ℕ)
    → changes k (changes_of n (history ds).runners) ≡ true → changes k c.changes ≡ true
    → (only_adds k (changes_of n (history ds).runners) && only_adds k c.changes) ≡ false → (a : Reply) (head : Head) (journal' : List ℕ)
    → Wrote (Commit n t) x.head keys values journal a head journal' → a.number ≡ 11
an_assign_conflicts = counters.an_assign_conflicts

pub map_an_assign_conflicts : {ds : List Deed} {x : MapCells} → MapReached ds x → (cs : Columns) → MapLent x cs
    → (newer : List Commitment) (c : Commitment) (older : List Commitment) → (history ds).commitments ≡ newer ++ c ∷ older → (n t : ℕ)
    → among n (numbers (history ds).runners) ≡ true → snapshot_of n (history ds).runners < c.time → last_in (history ds) < t → (k : ℕ)
    → changes k (changes_of n (history ds).runners) ≡ true → changes k c.changes ≡ true
    → (only_adds k (changes_of n (history ds).runners) && only_adds k c.changes) ≡ false → (a : Reply) (head : MapHead) {cs' : Columns}
    → Does x.head cs a head (Did (Commit n t)) cs' → a.number ≡ 11
map_an_assign_conflicts = counters.map_an_assign_conflicts

-- NO TRIVIAL STORE. A committed assign is looked up, and listed where the list has room.
pub a_committed_assign_is_looked_up : {room : ℕ → Type 0} {ds : List Deed} {since : ℕ} {x : Cells} (n k v t : ℕ)
    → Reached room (Did (Commit n t) ∷ Did (Update n k (Assign v)) ∷ ds) since x → (keys values journal : List ℕ) → Lent x (end x) keys values journal
    → shaped_reply x.head keys values journal (lookup_decided k t) ≡ accepted (Some v)
a_committed_assign_is_looked_up = corollaries.a_committed_assign_is_looked_up

pub a_committed_assign_is_listed : {room : ℕ → Type 0} {ds : List Deed} {since : ℕ} {x : Cells} (n k v t : ℕ)
    → Reached room (Did (Commit n t) ∷ Did (Update n k (Assign v)) ∷ ds) since x → (keys values journal : List ℕ) → Lent x (end x) keys values journal
    → (let rows = list_in (history (Did (Commit n t) ∷ Did (Update n k (Assign v)) ∷ ds)).commitments t in
    (listed contents : List ℕ) → length listed ≡ length contents → length rows ≤ length listed
    → (a : Reply) (listed' contents' : List ℕ) → ListedBy x.head keys values journal t listed contents a listed' contents'
    → Shows rows 0 listed contents a listed' contents' × (row_value rows k ≡ Some v))
a_committed_assign_is_listed = corollaries.a_committed_assign_is_listed

pub the_map_looks_up_a_committed_assign : {ds : List Deed} {m : MapCells} (n k v t : ℕ)
    → MapReached (Did (Commit n t) ∷ Did (Update n k (Assign v)) ∷ ds) m → (cs : Columns) → MapLent m cs
    → lookup_reply k t m.head cs ≡ accepted (Some v)
the_map_looks_up_a_committed_assign = corollaries.the_map_looks_up_a_committed_assign

pub the_map_lists_a_committed_assign : {ds : List Deed} {m : MapCells} (n k v t : ℕ)
    → MapReached (Did (Commit n t) ∷ Did (Update n k (Assign v)) ∷ ds) m → (cs : Columns) → MapLent m cs
    → (let rows = list_in (history (Did (Commit n t) ∷ Did (Update n k (Assign v)) ∷ ds)).commitments t in
    (listed contents : List ℕ) → length listed ≡ length contents → length rows ≤ length listed
    → (a : Reply) (listed' contents' : List ℕ) → ListedAt t m.head cs listed contents a listed' contents'
    → Shows rows 0 listed contents a listed' contents' × (row_value rows k ≡ Some v))
the_map_lists_a_committed_assign = corollaries.the_map_lists_a_committed_assign
