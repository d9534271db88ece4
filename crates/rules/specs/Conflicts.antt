-- Rule 3.6 on the records of a journal, the newest first. Assumes nothing.
use Rattle.std.specs.Prelude.{ℕ, Bool, not, ◌&&◌, List, nat_lt}
use Rattle.rules.specs.declared.Record.{Record}
use Rattle.rules.specs.Kinds.{is_update, is_commit}
use Rattle.rules.specs.Effects.{assigns}
use Rattle.rules.specs.Transactions.{any, of, wrote}

-- a transaction, by its own records, used nothing but add on k
abbrev pub only_added : ℕ → List Record → Bool
only_added k own = not (any (assigns k) own)

-- two transactions, by their own records, met on k: both wrote it, unless both used nothing but add on it
abbrev pub met_on : ℕ → List Record → List Record → Bool
met_on k own other = wrote k own && (wrote k other && not (only_added k own && only_added k other))

-- a commit record with a time later than s, of a transaction whose own records, anywhere in the whole journal, pass a test
abbrev pub committed_after : List Record → ℕ → (List Record → Bool) → Record → Bool
committed_after whole s test c = is_commit c && (nat_lt s c.time && test (of c.transaction whole))

-- one of some commit records of the whole journal is such a one
abbrev pub touched : List Record → ℕ → (List Record → Bool) → List Record → Bool
touched whole s test rs = any (committed_after whole s test) rs

-- an update record on whose key a transaction that committed later than s met this one
abbrev pub clashes : List Record → ℕ → List Record → Record → Bool
clashes rs s own r = is_update r && touched rs s (met_on r.key own) rs

-- a commit of transaction n with snapshot s conflicts
abbrev pub conflict : ℕ → ℕ → List Record → Bool
conflict n s rs = any (clashes rs s (of n rs)) (of n rs)
