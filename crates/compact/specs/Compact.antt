-- Rule 3.9 and section 5 in place: the records that stay, moved up to the front of the journal, and zeros over what they leave behind.
-- Assumes nothing.
use Rattle.std.specs.Prelude.{◌≡◌, Bool, cond, ◌&&◌, ◌||◌, List, [], ◌∷◌, ◌++◌, ℕ, ◌*◌, ◌-◌, ◌≤◌, length, take, drop, replicate}
use Rattle.rules.specs.declared.Record.{Record}
use Rattle.rules.specs.Kinds.{record_size}
use Rattle.rules.specs.Lists.{among}
use Rattle.rules.specs.Checkpoints.{is_known, raise}
use Rattle.record.specs.Bytes.{laid}

-- a known kind, of a transaction that stands in one of two columns
abbrev pub kept_in : List ℕ → List ℕ → Record → Bool
kept_in opened lates r = is_known r && (among r.transaction opened || among r.transaction lates)

-- the records that pass a test, in order, their begins raised to T
abbrev pub sifted : (Record → Bool) → ℕ → List Record → List Record
sifted p T [] = []
sifted p T (r ∷ rs) = cond (p r) (raise T r ∷ sifted p T rs) (sifted p T rs)

-- b with zeros from one place to another
abbrev pub zeroed : List ℕ → ℕ → ℕ → List ℕ
zeroed b from to = take from b ++ (replicate (to - from) 0 ++ drop to b)

-- b with some records at its front, zeros behind them up to a place, and the rest as it was
abbrev pub compacted : List Record → ℕ → List ℕ → List ℕ
compacted stay end b = laid stay ++ (replicate (end - length stay * record_size) 0 ++ drop end b)

-- the first records of b are passed: those that stay stand at the front of the exit, and what is not passed is as it was
pub record Moved (stay : List Record) (b : List ℕ) (passed n : ℕ) (exit : List ℕ) : Type 0 where
  pub few : n ≤ passed
  pub count : n ≡ length stay
  pub front : take (n * record_size) exit ≡ laid stay
  pub back : drop (passed * record_size) exit ≡ drop (passed * record_size) b

-- how many stay, and the journal at exit
pub record Compacted (stay : List Record) (end : ℕ) (b : List ℕ) (n : ℕ) (exit : List ℕ) : Type 0 where
  pub count : n ≡ length stay
  pub cells : exit ≡ compacted stay end b
