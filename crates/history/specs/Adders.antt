-- What is said of transactions that share counters: what their adds come to, and when two of them are apart but for counters. Assumes nothing.
use Rattle.std.specs.Prelude.{◌≡◌, Bool, true, false, cond, ◌&&◌, ◌||◌, List, [], ◌∷◌, ◌++◌, ℕ, ◌+◌, ◌%◌, ◌^◌, ◌<◌, eqb, leb, ltb}
use Rattle.rules.specs.declared.Effect.{Effect}
use Rattle.rules.specs.declared.Effect.TheVariants.{Assign, Add}
use Rattle.history.specs.History.{Change, Commitment, History, changes_of, snapshot_of, changes}
use Rattle.history.specs.Refusals.{only_adds, meet}

-- what a change adds
abbrev pub added_by : Effect → ℕ
added_by (Assign v) = 0
added_by (Add d) = d

-- what some changes add to k in all
abbrev pub total : ℕ → List Change → ℕ
total k [] = 0
total k (c ∷ older) = cond (eqb c.key k) (total k older + added_by c.effect) (total k older)

-- the only keys that two transactions share are keys to which both only add
abbrev pub ShareCounters : List Change → List Change → Type 0
ShareCounters mine theirs = (k : ℕ) → changes k mine ≡ true → changes k theirs ≡ true → (only_adds k mine ≡ true) × (only_adds k theirs ≡ true)

-- a committed transaction raised k: it changed it, and by adds alone
abbrev pub Raises : ℕ → Commitment → Type 0
Raises k c = (changes k c.changes ≡ true) × (only_adds k c.changes ≡ true)

-- a counter raised, modulo 4,294,967,296
abbrev pub raised_by : ℕ → ℕ → ℕ
raised_by v d = (v + d) % 2 ^ 32

-- k was written by a transaction that committed after u and at or before t
abbrev pub written_between : List Commitment → ℕ → ℕ → ℕ → Bool
written_between [] u t k = false
written_between (c ∷ older) u t k = (ltb u c.time && (leb c.time t && changes k c.changes)) || written_between older u t k

-- a committed transaction that a commit of n conflicts with: it committed later than n's snapshot, and the two met on a key
pub record Cause (n : ℕ) (h : History) : Type 0 where
  pub newer : List Commitment
  pub other : Commitment
  pub older : List Commitment
  pub committed : h.commitments ≡ newer ++ other ∷ older
  pub later : snapshot_of n h.runners < other.time
  pub key : ℕ
  pub met : meet key (changes_of n h.runners) other.changes ≡ true
