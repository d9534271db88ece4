-- Rule 3.2 on the records of a journal, the newest first: what stands before a record is its tail. A transaction is its own records.
-- Every definition reads any list of records. Assumes nothing.
use Rattle.std.specs.Prelude.{ℕ, Bool, false, cond, not, ◌&&◌, ◌||◌, List, [], ◌∷◌, length, ◌==◌, nat_lt}
use Rattle.rules.specs.declared.Record.{Record}
use Rattle.rules.specs.Kinds.{is_begin, is_update, is_end}
use Rattle.rules.specs.Limits.{most_keys}
use Rattle.rules.specs.Effects.{writes}

-- some record passes the test
abbrev pub any : (Record → Bool) → List Record → Bool
any p [] = false
any p (r ∷ rs) = p r || any p rs

-- the records of transaction n
abbrev pub of : ℕ → List Record → List Record
of n [] = []
of n (r ∷ rs) = cond (r.transaction == n) (r ∷ of n rs) (of n rs)

-- a begin and neither a commit nor an abort, in a transaction's own records
abbrev pub still_open : List Record → Bool
still_open own = any is_begin own && not (any is_end own)

-- transaction n runs
abbrev pub runs : ℕ → List Record → Bool
runs n rs = still_open (of n rs)

-- the time of the first begin, in a transaction's own records; 0 where there is none
abbrev pub first_begin : List Record → ℕ
first_begin [] = 0
first_begin (r ∷ own) = cond (is_begin r && not (any is_begin own)) r.time (first_begin own)

-- the snapshot of transaction n
abbrev pub snapshot : ℕ → List Record → ℕ
snapshot n rs = first_begin (of n rs)

-- a transaction, by its own records, wrote k
abbrev pub wrote : ℕ → List Record → Bool
wrote k own = any (writes k) own

-- the distinct keys that a transaction wrote, by its own records
abbrev pub keys_written : List Record → List ℕ
keys_written [] = []
keys_written (r ∷ own) = cond (is_update r && not (wrote r.key own)) (r.key ∷ keys_written own) (keys_written own)

-- transaction n may write k: it has written it, or fewer keys than may be
abbrev pub may_write : ℕ → ℕ → List Record → Bool
may_write n k rs = wrote k (of n rs) || nat_lt (length (keys_written (of n rs))) most_keys

-- r is the first begin of a transaction that has no end anywhere in the whole journal
abbrev pub opens : List Record → Record → List Record → Bool
opens whole r older = is_begin r && (not (any is_begin (of r.transaction older)) && not (any is_end (of r.transaction whole)))

-- the running transactions that some records of the whole journal begin
abbrev pub running_in : List Record → List Record → List ℕ
running_in whole [] = []
running_in whole (r ∷ older) = cond (opens whole r older) (r.transaction ∷ running_in whole older) (running_in whole older)

-- the running transactions, each number once, the latest begun first
abbrev pub running : List Record → List ℕ
running rs = running_in rs rs

-- the numbers but one
abbrev pub without : ℕ → List ℕ → List ℕ
without n [] = []
without n (m ∷ ms) = cond (n == m) (without n ms) (m ∷ without n ms)
