-- Rule 3.6 and section 5 as they were while two adders of one key conflicted. Assumes nothing.
use Rattle.std.specs.Prelude.{ℕ, Bool, true, cond, not, ◌&&◌, List, [], ◌∷◌}
use Rattle.rules.specs.declared.Record.{Record}
use Rattle.rules.specs.Kinds.{is_update, is_commit}
use Rattle.rules.specs.Transactions.{any, of, snapshot, wrote}
use Rattle.rules.specs.Conflicts.{touched}
use Rattle.rules.specs.Recovery.{formed, numbered, timely, limited}

-- two transactions met on k: both wrote it
abbrev pub met_before : ℕ → List Record → List Record → Bool
met_before k own other = wrote k own && wrote k other

-- an update record on whose key a transaction that committed later than s met this one
abbrev pub clashed_before : List Record → ℕ → List Record → Record → Bool
clashed_before rs s own r = is_update r && touched rs s (met_before r.key own) rs

-- a commit of transaction n with snapshot s conflicts
abbrev pub conflict_before : ℕ → ℕ → List Record → Bool
conflict_before n s rs = any (clashed_before rs s (of n rs)) (of n rs)

-- a commit does not conflict
abbrev pub clear_before : List Record → Record → Bool
clear_before older r = cond (is_commit r) (not (conflict_before r.transaction (snapshot r.transaction older) older)) true

-- an accepted call would have written r behind older
abbrev pub judge_before : ℕ → List Record → Record → Bool
judge_before low older r = formed r && (numbered older r && (timely low older r && (limited older r && clear_before older r)))

-- every record was one that an accepted call would have written at its place
abbrev pub accepts_before : ℕ → List Record → Bool
accepts_before low [] = true
accepts_before low (r ∷ older) = judge_before low older r && accepts_before low older
