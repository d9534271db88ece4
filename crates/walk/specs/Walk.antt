-- What recovery's walk carries: last, the numbers begun, and the running transactions with their snapshots in two columns. Assumes nothing.
use Rattle.std.specs.Prelude.{◌≡◌, Bool, true, cond, ◌&&◌, List, [], ◌∷◌, ℕ, zero, suc, ◌+◌, ◌-◌, ◌≤◌, ◌<◌, eqb, leb, ltb, length, take, get_or, set, replicate}
use Rattle.rules.specs.Limits.{most_running, numbers_end}
use Rattle.rules.specs.declared.Record.{Record}
use Rattle.rules.specs.Kinds.{is_begin, is_commit}
use Rattle.rules.specs.Lists.{among}
use Rattle.rules.specs.Transactions.{of, snapshot, running, without}
use Rattle.rules.specs.Times.{last as last_in, above as above_in}
use Rattle.rules.specs.Recovery.{judge}
use Rattle.walk.specs.declared.State.{State}

-- nothing is passed
abbrev pub started : ℕ → State
started low = record { last = low; above = 1; count = 0; numbers = replicate most_running 0; snapshots = replicate most_running 0 }

-- one transaction more runs
abbrev pub pushed : State → ℕ → ℕ → State
pushed s n t =
    record {
      last = s.last;
      above = s.above;
      count = s.count + 1;
      numbers = set s.numbers s.count n;
      snapshots = set s.snapshots s.count t;
    }

-- the first rows of a column, the latest first
abbrev pub latest : ℕ → List ℕ → List ℕ
latest zero column = []
latest (suc n) column = get_or column n 0 ∷ latest n column

-- each of the first i rows has the snapshot that a function gives for its number
abbrev pub HeldTo : ℕ → (ℕ → ℕ) → State → Type 0
HeldTo i snap s = (j : ℕ) → j < i → get_or s.snapshots j 0 ≡ snap (get_or s.numbers j 0)

-- each used row
abbrev pub Held : (ℕ → ℕ) → State → Type 0
Held snap s = HeldTo s.count snap s

-- both columns have eight rows
pub record Room (s : State) : Type 0 where
  pub numbers : length s.numbers ≡ most_running
  pub snapshots : length s.snapshots ≡ most_running

-- v has the first i rows of s, without those of n
pub record Without (s : State) (n i : ℕ) (v : State) : Type 0 where
  pub last : v.last ≡ s.last
  pub above : v.above ≡ s.above
  pub few : v.count ≤ i
  pub room : Room v
  pub rows : latest v.count v.numbers ≡ without n (latest i s.numbers)
  pub held : (snap : ℕ → ℕ) → HeldTo i snap s → Held snap v

-- the used rows are the running transactions with their snapshots
pub record Open (rs : List Record) (s : State) : Type 0 where
  pub few : s.count ≤ most_running
  pub room : Room s
  pub rows : latest s.count s.numbers ≡ running rs
  pub held : Held (λ m. snapshot m rs) s

-- the state is that of the records passed, and no number at or above `above` has a record
pub record Tracks (low : ℕ) (rs : List Record) (s : State) : Type 0 where
  pub last : s.last ≡ last_in low rs
  pub above : s.above ≡ above_in 1 rs
  pub fresh : (n : ℕ) → above_in 1 rs ≤ n → of n rs ≡ []
  pub opened : Open rs s

-- v tracks one record more, if that one is accepted
abbrev pub Stepped : State → Record → State → Type 0
Stepped s r v = (low : ℕ) (rs : List Record) → Tracks low rs s → judge low rs r ≡ true → Tracks low (r ∷ rs) v

-- v is the snapshot of a running transaction
abbrev pub SnapshotOf : State → ℕ → ℕ → Type 0
SnapshotOf s n v = (snap : ℕ → ℕ) → Held snap s → among n (take s.count s.numbers) ≡ true → v ≡ snap n

-- `numbered` by the state
abbrev pub numbered_by : State → Record → Bool
numbered_by s r =
    cond (is_begin r) (leb s.above r.transaction && leb r.transaction (numbers_end - 1)) (among r.transaction (take s.count s.numbers))

-- `timely` by the state
abbrev pub timely_by : ℕ → State → Record → Bool
timely_by low s r = cond (is_begin r) (leb low r.time && leb r.time s.last) (cond (is_commit r) (ltb s.last r.time) true)

-- key and value zero
abbrev pub is_blank : Record → Bool
is_blank r = eqb r.key 0 && eqb r.value 0
