-- Section 6 from the history alone, but for shape: the number that a deed gets, in the order of its tests, and what an accepted one gives. It shares
-- with the stores that no room (12) is the last test. Assumes nothing.
use Rattle.std.specs.Prelude.{Bool, true, false, cond, not, ◌&&◌, ◌||◌, List, [], ◌∷◌, ℕ, ◌+◌, eqb, leb, ltb, length, Some, None}
use Rattle.rules.specs.Limits.{most_running, most_keys, numbers_end}
use Rattle.rules.specs.Lists.{among}
use Rattle.rules.specs.declared.Effect.{Effect}
use Rattle.rules.specs.declared.Effect.TheVariants.{Assign, Add}
use Rattle.rules.specs.Value.{Value}
use Rattle.rules.specs.Calls.{Call, Begin, Update, Abort, Commit, with_room}
use Rattle.history.specs.History.{Change, Commitment, Runner, History, Deed, Did, Checkpointed, numbers, changes_of, snapshot_of, latest, changes}

-- some number of a list passes the test
abbrev pub any_of : (ℕ → Bool) → List ℕ → Bool
any_of p [] = false
any_of p (n ∷ ns) = p n || any_of p ns

-- the distinct keys of some changes
abbrev pub distinct_keys : List Change → List ℕ
distinct_keys [] = []
distinct_keys (c ∷ older) = cond (changes c.key older) (distinct_keys older) (c.key ∷ distinct_keys older)

-- a change that adds
abbrev pub increases : Effect → Bool
increases (Assign v) = false
increases (Add d) = true

-- of some changes those of k are all adds
abbrev pub only_adds : ℕ → List Change → Bool
only_adds k [] = true
only_adds k (c ∷ older) = cond (eqb c.key k) (increases c.effect) true && only_adds k older

-- two transactions, by their changes, met on k: both changed it, and it is not so that both only added to it
abbrev pub meet : ℕ → List Change → List Change → Bool
meet k mine theirs = (changes k mine && changes k theirs) && not (only_adds k mine && only_adds k theirs)

-- the changes of a transaction that committed later than s pass a test
abbrev pub changed_after : List Commitment → ℕ → (List Change → Bool) → Bool
changed_after [] s test = false
changed_after (c ∷ older) s test = (ltb s c.time && test c.changes) || changed_after older s test

-- rule 3.6: on the key of one of these changes a transaction that committed later than s met the one that made mine
abbrev pub conflicts : List Commitment → ℕ → List Change → List Change → Bool
conflicts cs s mine [] = false
conflicts cs s mine (c ∷ older) = changed_after cs s (meet c.key mine) || conflicts cs s mine older

-- a commit of running transaction n conflicts, if these transactions have committed
abbrev pub conflicts_with : List Commitment → ℕ → List Runner → Bool
conflicts_with cs n rs = conflicts cs (snapshot_of n rs) (changes_of n rs) (changes_of n rs)

-- t is above a running snapshot
abbrev pub holds_back : ℕ → List Runner → Bool
holds_back t rs = any_of (λ n. ltb (snapshot_of n rs) t) (numbers rs)

-- the greatest of low and all commit times of a history
abbrev pub last_in : History → ℕ
last_in h = latest h.low h.commitments

-- a time below low is too old (4), one above last lies in the future (5)
abbrev pub time_refused : ℕ → History → ℕ → ℕ
time_refused t h others = cond (ltb t h.low) 4 (cond (ltb (last_in h) t) 5 others)

-- a transaction that does not run is unknown (2)
abbrev pub unknown_or : ℕ → History → ℕ → ℕ
unknown_or n h others = cond (not (among n (numbers h.runners))) 2 others

-- but for room
abbrev pub refusal_in : Deed → History → ℕ
refusal_in (Did (Begin t)) h = time_refused t h (cond (leb most_running (length h.runners)) 6 (cond (leb numbers_end h.next) 7 0))
refusal_in (Did (Update n k e)) h =
    let mine = changes_of n h.runners in
    unknown_or n h (cond (eqb k 0) 3 (cond (not (changes k mine || ltb (length (distinct_keys mine)) most_keys)) 8 0))
refusal_in (Did (Abort n)) h = unknown_or n h 0
refusal_in (Did (Commit n t)) h =
    unknown_or n h (cond (leb t (last_in h)) 10 (cond (conflicts_with h.commitments n h.runners) 11 0))
refusal_in (Checkpointed t) h = time_refused t h (cond (holds_back t h.runners) 9 0)

-- what an accepted call gives: begin its number, the others nothing
abbrev pub gives_in : Call → History → Value
gives_in (Begin t) h = Some h.next
gives_in (Update n k e) h = None
gives_in (Abort n) h = None
gives_in (Commit n t) h = None

-- rule 3.11: begin needs 2 free records and one for each running transaction, update 1 and one for each running, abort and commit 1
abbrev pub need_in : Call → History → ℕ
need_in (Begin t) h = 2 + length h.runners
need_in (Update n k e) h = 1 + length h.runners
need_in (Abort n) h = 1
need_in (Commit n t) h = 1

-- the number that a call gets in a journal with so many used records and room for so many
abbrev pub number_in : ℕ → ℕ → Call → History → ℕ
number_in used room c h = with_room (refusal_in (Did c) h) (used + need_in c h) room

-- the number that a deed gets in a map store with so many used versions and room for so many: a commit alone needs room, a row for each key
abbrev pub map_number_in : ℕ → ℕ → Deed → History → ℕ
map_number_in used room (Did (Begin t)) h = refusal_in (Did (Begin t)) h
map_number_in used room (Did (Update n k e)) h = refusal_in (Did (Update n k e)) h
map_number_in used room (Did (Abort n)) h = refusal_in (Did (Abort n)) h
map_number_in used room (Did (Commit n t)) h =
    with_room (refusal_in (Did (Commit n t)) h) (used + length (distinct_keys (changes_of n h.runners))) room
map_number_in used room (Checkpointed t) h = refusal_in (Checkpointed t) h

-- what an accepted deed gives
abbrev pub deed_gives : Deed → History → Value
deed_gives (Did c) h = gives_in c h
deed_gives (Checkpointed t) h = None

-- the numbers that a lookup and a read get
abbrev pub lookup_number : ℕ → ℕ → History → ℕ
lookup_number k t h = cond (eqb k 0) 3 (time_refused t h 0)

abbrev pub read_number : ℕ → ℕ → History → ℕ
read_number n k h = unknown_or n h (cond (eqb k 0) 3 0)
