-- Rule 3.9 on the records of a journal, the newest first: what a checkpoint at T keeps. Assumes nothing.
use Rattle.std.specs.Prelude.{ℕ, max, Bool, cond, ◌&&◌, ◌||◌, List, [], ◌∷◌, nat_le, nat_lt}
use Rattle.rules.specs.declared.Record.{Record}
use Rattle.rules.specs.Kinds.{is_begin, is_commit}
use Rattle.rules.specs.Transactions.{any, of, runs, snapshot}

-- a begin of a running transaction whose snapshot lies below T
abbrev pub held_by : ℕ → List Record → Record → Bool
held_by T whole r = is_begin r && (runs r.transaction whole && nat_lt (snapshot r.transaction whole) T)

-- T is above a running snapshot
abbrev pub held : ℕ → List Record → Bool
held T rs = any (held_by T rs) rs

-- a commit later than T
abbrev pub late : ℕ → Record → Bool
late T c = is_commit c && nat_lt T c.time

-- transaction n runs or committed after T
abbrev pub stays : ℕ → List Record → ℕ → Bool
stays T rs n = runs n rs || any (late T) (of n rs)

-- kinds 1 to 5
abbrev pub is_known : Record → Bool
is_known r = nat_le 1 r.kind && nat_le r.kind 5

-- the records of kinds 1 to 5
abbrev pub known : List Record → List Record
known [] = []
known (r ∷ rs) = cond (is_known r) (r ∷ known rs) (known rs)

-- a begin with a snapshot below T gets T
abbrev pub raise : ℕ → Record → Record
raise T r =
    record {
      kind = r.kind;
      zeros = r.zeros;
      transaction = r.transaction;
      key = r.key;
      value = r.value;
      time = cond (is_begin r) (max T r.time) r.time;
    }

-- the records of the transactions that are kept, in order, their begins raised to T
abbrev pub sift : (ℕ → Bool) → ℕ → List Record → List Record
sift keep T [] = []
sift keep T (r ∷ rs) = cond (keep r.transaction) (raise T r ∷ sift keep T rs) (sift keep T rs)

-- what a checkpoint at T keeps
abbrev pub kept : ℕ → List Record → List Record
kept T rs = sift (stays T rs) T (known rs)
