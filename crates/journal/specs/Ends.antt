-- Where the end of a transaction may stand, and one more than the highest number in some records. Assumes nothing.
use Rattle.std.specs.Prelude.{Bool, false, ◌&&◌, ◌||◌, List, [], ◌∷◌, ℕ, zero, suc, ◌+◌, ◌*◌, max, eqb}
use Rattle.rules.specs.declared.Record.{Record}
use Rattle.rules.specs.Kinds.{record_size, is_end}
use Rattle.record.specs.Bytes.{record_at}

-- a commit or an abort of transaction n
abbrev pub ends : ℕ → Record → Bool
ends n r = eqb r.transaction n && is_end r

-- one of count records from place i on ends transaction n
abbrev pub ended_from : ℕ → List ℕ → ℕ → ℕ → Bool
ended_from n b i zero = false
ended_from n b i (suc count) = ends n (record_at b (i * record_size)) || ended_from n b (i + 1) count

-- one more than the highest number in a record
abbrev pub top : List Record → ℕ
top [] = 0
top (r ∷ rs) = max (top rs) (r.transaction + 1)
