-- The demands on the journal store, over any sequence of calls, checkpoints and restarts from an empty store, with whatever room is lent to each,
-- refused calls included (Cells). The answers are those that the calls' contracts give on the lent cells; what they are held to is the history of
-- the accepted calls, as if no checkpoint had been taken (History, Refusals). Assumes nothing.
use Rattle.std.specs.Prelude.{◌≡◌, refl, Bool, cond, not, List, ℕ, ◌≤◌, eqb, leb, ltb, length, Some, None}
use Rattle.std.proofs.Common.{ap, sym, ◌∙◌, arith, eqb-true, eq-eqb, le-leb, le-ltb, ltb-false}
use Rattle.std.proofs.lemmas.Bool.{not-false, eqb-false}
use Rattle.rules.specs.Bools.{split}
use Rattle.rules.specs.Passed.{passed, fitting}
use Rattle.rules.specs.Running.{running_runs}
use Rattle.rules.specs.Calls.{Store, last_of, running_of, runs_in, value_of, list_of, read_of, Call, Begin, Update, Abort, Commit, gives, read_refusal, lookup_refusal, list_refusal, checkpoint_refusal, need, with_room, answer, list_answer, checkpoint_answer}
use Rattle.record.specs.Laws.{length_records}
use Rattle.answer.specs.Reply.{Reply, accepted, told}
use Rattle.journal_store.specs.declared.Head.{Head}
use Rattle.journal_store.specs.Shape.{room_of, row_room, meaning}
use Rattle.journal_store.specs.CallContracts.{number, Wrote, read_decided, lookup_decided, shaped_reply, list_number, ListedBy, checkpoint_number}
use Rattle.journal_store.specs.Laws.{reply_good}
use Rattle.history.specs.History.{History, Deed, Did, Checkpointed, numbers, history, value_in, reads, list_in}
use Rattle.history.specs.Refusals.{last_in, time_refused, refusal_in, gives_in, need_in, number_in, lookup_number, read_number}
use Rattle.history.specs.Lawful.{Lawful}
use Rattle.history.proofs.RefusalsTold.{length_numbers}
use Rattle.history.proofs.Whole.{whole_refuses}
use Rattle.history.proofs.Tied.{refused_alike}
use Rattle.history.proofs.Allowed.{refused}
use Rattle.history.proofs.Answered.{low_same, last_same, next_same, running_same, value_same, list_same, read_same}
use Rattle.history.proofs.Meant.{course_of}
use Rattle.history.specs.Cells.{Cells, meaning_of, end, Lent, Shows, Registers, Reached}
use Rattle.history.proofs.Rows.{shown_registers}
use Rattle.history.proofs.Lent.{told_same, shows_same, tie, lent_passes, lent_meaning}
use Rattle.journal_store.specs.CallContracts as checkpoint

-- the wanted room matters only where nothing else refuses
pub room_same : (refused refused' wanted wanted' room : ℕ) → refused ≡ refused' → (refused ≡ 0 → wanted ≡ wanted')
    → with_room refused wanted room ≡ with_room refused' wanted' room
room_same refused refused' wanted wanted' room e f =
    ap (λ (n : ℕ). with_room n wanted room) e
    ∙ split (eqb refused' 0)
    (λ z. ap (λ (w : ℕ). with_room refused' w room) (f (e ∙ eqb-true refused' 0 z)))
    (λ z. ap (λ (b : Bool). cond b (cond (leb wanted room) 0 12) refused') z ∙ sym (ap (λ (b : Bool). cond b (cond (leb wanted' room) 0 12) refused') z))

-- a time from low to last, and room enough: accepted
pub in_time : (t : ℕ) (h : History) (wanted room : ℕ) → h.low ≤ t → t ≤ last_in h → wanted ≤ room → with_room (time_refused t h 0) wanted room ≡ 0
in_time t h wanted room old new fits = rw (le-ltb t h.low old, le-ltb (last_in h) t new, le-leb wanted room fits)

module _ {room : ℕ → Type 0} {ds : List Deed} {since : ℕ} {x : Cells} (r : Reached room ds since x) where
  -- What was accepted is what the history does not refuse.
  pub accepted_is_lawful : Lawful ds
  accepted_is_lawful = (tie r).lawful

  -- low and last are the history's
  pub low_is : x.head.low ≡ (history ds).low
  low_is = low_same (course_of ds since x) (tie r)

  pub last_is : last_of (meaning_of x) ≡ last_in (history ds)
  last_is = last_same (course_of ds since x) (tie r)

  times_refused : (t : ℕ) → list_refusal t (meaning_of x) ≡ time_refused t (history ds) 0
  times_refused t = rw (last_is, ← low_is)

  -- a time that is not refused is not below low
  not_old : (t : ℕ) → list_refusal t (meaning_of x) ≡ 0 → x.head.low ≤ t
  not_old t e = ltb-false t x.head.low (passed (ltb t x.head.low) 4 _ (omega arith) e).0

  pub running_is : running_of (meaning_of x) ≡ numbers (history ds).runners
  running_is = running_same (course_of ds since x) (tie r)

  pub refused_is : (d : Deed) → refused d (meaning_of x) ≡ refusal_in d (history ds)
  refused_is d =
      refused_alike (course_of ds since x) (tie r) d ∙ whole_refuses (tie r).lawful d

  needed : (c : Call) → need c (meaning_of x) ≡ need_in c (history ds)
  needed (Begin t) = rw (running_is, length_numbers (history ds).runners)
  needed (Update n k e) = rw (running_is, length_numbers (history ds).runners)
  needed (Abort n) = refl
  needed (Commit n t) = refl

  given : (c : Call) → gives c (meaning_of x) ≡ gives_in c (history ds)
  given (Begin t) = ap Some (next_same (course_of ds since x) (tie r))
  given (Update n k e) = refl
  given (Abort n) = refl
  given (Commit n t) = refl

  module _ (keys values journal : List ℕ) (l : Lent x (end x) keys values journal) where
    -- LISTS. Whatever the time and the lent rows: the number that the history gives, and where it is 0 exactly the history's list.
    pub list_answers : (t : ℕ) (listed contents : List ℕ) → length listed ≡ length contents → (a : Reply) (listed' contents' : List ℕ)
        → ListedBy x.head keys values journal t listed contents a listed' contents'
        → Shows (list_in (history ds).commitments t)
        (with_room (time_refused t (history ds) 0) (length (list_in (history ds).commitments t)) (length listed)) listed contents a listed' contents'
    list_answers t listed contents p a listed' contents' w =
        let s = meaning x.head keys values journal in
        let q : s ≡ meaning_of x = lent_meaning r keys values journal l in
        let n : list_number x.head keys values journal t (length listed) (length contents) ≡ list_answer (length listed) t (meaning_of x) =
        rw (eq-eqb (length listed) (length contents) p, lent_passes r keys values journal l) (ap (list_answer (length listed) t) q)
        in
        let same : list_refusal t (meaning_of x) ≡ 0 → list_of t (meaning_of x) ≡ list_in (history ds).commitments t =
        λ z. list_same (course_of ds since x) (tie r) t (not_old t z)
        in
        let m : list_answer (length listed) t (meaning_of x)
        ≡ with_room (time_refused t (history ds) 0) (length (list_in (history ds).commitments t)) (length listed) =
        room_same (list_refusal t (meaning_of x)) (time_refused t (history ds) 0) (length (list_of t (meaning_of x))) (length (list_in (history ds).commitments t)) (length listed)
        (times_refused t) (λ z. ap length (same z))
        in
        shows_same (list_of t s) (list_in (history ds).commitments t) (list_number x.head keys values journal t (length listed) (length contents)) _
        listed contents a listed' contents' (n ∙ m)
        (λ z. ap (λ (s : Store). list_of t s) q ∙ same (fitting _ _ (length listed) (sym n ∙ z)).0)
        (record { reply = w.reply; keys_column = w.keys_column; values_column = w.values_column })

    -- At every time from low to last a list with room enough is accepted, and gives exactly the history's list.
    pub journal_lists_the_history : (t : ℕ) → (history ds).low ≤ t → t ≤ last_in (history ds) → (listed contents : List ℕ) → length listed ≡ length contents
        → length (list_in (history ds).commitments t) ≤ length listed → (a : Reply) (listed' contents' : List ℕ)
        → ListedBy x.head keys values journal t listed contents a listed' contents'
        → Shows (list_in (history ds).commitments t) 0 listed contents a listed' contents'
    journal_lists_the_history t old new listed contents p fits a listed' contents' w =
        shows_same (list_in (history ds).commitments t) (list_in (history ds).commitments t) _ 0 listed contents a listed' contents'
        (in_time t (history ds) (length (list_in (history ds).commitments t)) (length listed) old new fits) (λ z. refl)
        (list_answers t listed contents p a listed' contents' w)

    -- Demand 3, whole: at every time from low to last a list with room enough has a count n, and exactly the history's registers in n rows.
    pub every_listing : (t : ℕ) → (history ds).low ≤ t → t ≤ last_in (history ds) → (listed contents : List ℕ) → length listed ≡ length contents
        → length (list_in (history ds).commitments t) ≤ length listed → (a : Reply) (listed' contents' : List ℕ)
        → ListedBy x.head keys values journal t listed contents a listed' contents'
        → (n : ℕ) × (a ≡ accepted (Some n)) × Registers (history ds).commitments t n listed' contents'
    every_listing t old new listed contents p fits a listed' contents' w =
        shown_registers (history ds).commitments t listed contents p fits a listed' contents'
        (journal_lists_the_history t old new listed contents p fits a listed' contents' w)

    -- VALUES. A lookup gives the number that the history gives, and where it is 0 the history's value.
    pub looks_up_the_history : (k t : ℕ)
        → shaped_reply x.head keys values journal (lookup_decided k t) ≡ told (lookup_number k t (history ds)) (value_in (history ds).commitments t k)
    looks_up_the_history k t =
        sym (reply_good x.head keys values journal (lookup_decided k t) _ (lent_passes r keys values journal l) refl)
        ∙ ap (lookup_decided k t) (lent_meaning r keys values journal l)
        ∙ told_same (lookup_refusal k t (meaning_of x)) (lookup_number k t (history ds)) (value_of k t (meaning_of x)) (value_in (history ds).commitments t k)
        (ap (cond (eqb k 0) 3) (times_refused t))
        (λ z.
        let y = passed (eqb k 0) 3 (list_refusal t (meaning_of x)) (omega arith) z in
        let i = eqb-false k 0 y.0 in
        value_same (course_of ds since x) (tie r) t k (omega arith) (not_old t y.1))

    -- READS. A read in a running transaction gives the history's value at its snapshot, then its own changes in order.
    pub reads_the_history : (n k : ℕ)
        → shaped_reply x.head keys values journal (read_decided n k) ≡ told (read_number n k (history ds)) (reads (history ds) n k)
    reads_the_history n k =
        let e : read_refusal n k (meaning_of x) ≡ read_number n k (history ds) = rw (← running_is, running_runs n (meaning_of x).records) in
        sym (reply_good x.head keys values journal (read_decided n k) _ (lent_passes r keys values journal l) refl)
        ∙ ap (read_decided n k) (lent_meaning r keys values journal l)
        ∙ told_same (read_refusal n k (meaning_of x)) (read_number n k (history ds)) (read_of n k (meaning_of x)) (reads (history ds) n k) e
        (λ z.
        let y = passed (not (runs_in n (meaning_of x))) 2 (cond (eqb k 0) 3 0) (omega arith) z in
        let v = passed (eqb k 0) 3 0 (omega arith) y.1 in
        let i = eqb-false k 0 v.0 in
        read_same (course_of ds since x) (tie r) n k (not-false (runs_in n (meaning_of x)) y.0) (omega arith))

    -- CALLS. Begin, update, abort and commit get the number of section 6 that the history gives, and an accepted begin the next number.
    pub number_is : (c : Call) → number c x.head keys values journal ≡ number_in x.head.journal.used (room_of (length journal)) c (history ds)
    number_is c =
        rw (lent_passes r keys values journal l)
        (ap (answer (room_of (length journal)) c) (lent_meaning r keys values journal l)
        ∙ rw (refused_is (Did c), needed c, length_records x.head.journal.used x.journal))

    pub calls_answer : (c : Call) (a : Reply) (head : Head) (journal' : List ℕ) → Wrote c x.head keys values journal a head journal'
        → a ≡ told (number_in x.head.journal.used (room_of (length journal)) c (history ds)) (gives_in c (history ds))
    calls_answer c a head journal' w =
        w.reply
        ∙ ap (λ (n : ℕ). told n (gives c (meaning x.head keys values journal))) (number_is c)
        ∙ ap (told (number_in x.head.journal.used (room_of (length journal)) c (history ds))) (ap (gives c) (lent_meaning r keys values journal l) ∙ given c)

    -- A checkpoint too; its room is that of the base.
    checkpoint_number_lem : (T : ℕ)
        → checkpoint_number T x.head keys values journal
        ≡ with_room (refusal_in (Checkpointed T) (history ds)) (length (list_in (history ds).commitments T)) (row_room (length keys))
    checkpoint_number_lem T =
        rw (lent_passes r keys values journal l)
        (ap (checkpoint_answer (row_room (length keys)) T) (lent_meaning r keys values journal l)
        ∙ room_same (checkpoint_refusal T (meaning_of x)) (refusal_in (Checkpointed T) (history ds)) (length (list_of T (meaning_of x)))
        (length (list_in (history ds).commitments T)) (row_room (length keys)) (refused_is (Checkpointed T))
        (λ z. ap length (list_same (course_of ds since x) (tie r) T (ltb-false T x.head.low (passed (ltb T x.head.low) 4 _ (omega arith) z).0))))

    pub checkpoint_answers : (T : ℕ) (a : Reply) (head : Head) (keys' values' journal' : List ℕ)
        → checkpoint.Checkpointed T x.head keys values journal a head keys' values' journal'
        → a ≡ told (with_room (refusal_in (Checkpointed T) (history ds)) (length (list_in (history ds).commitments T)) (row_room (length keys))) None
    checkpoint_answers T a head keys' values' journal' w = w.reply ∙ ap (λ (n : ℕ). told n None) (checkpoint_number_lem T)
