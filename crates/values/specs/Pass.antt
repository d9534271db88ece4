-- What the pass of a key over the records carries: the key's updates so far, kept in three columns in
-- the order of the journal. Assumes nothing.
use Rattle.std.specs.Prelude.{◌≡◌, false, cond, List, ℕ, zero, suc, ◌+◌, ◌≤◌, eqb, get_or, Some, None, Option}
use Rattle.rules.specs.declared.Record.{Record}
use Rattle.rules.specs.Value.{Value}
use Rattle.rules.specs.declared.Effect.{Effect}
use Rattle.rules.specs.declared.Effect.TheVariants.{Assign, Add}
use Rattle.rules.specs.Effects.{applied, effects}
use Rattle.rules.specs.Transactions.{of, wrote}
use Rattle.rules.specs.Values.{value}
use Rattle.record.specs.Bytes.{records_in}
use Rattle.record.specs.declared.Records.{Records}

-- no record before this place writes the key
pub record Unwritten (records : Records) (k i : ℕ) : Type 0 where
  pub within : i ≤ records.used
  pub before : wrote k (records_in i records.bytes.now) ≡ false

-- the effect of a kept update: kind 2 assigns its amount, kind 3 adds it
abbrev pub kept_effect : ℕ → ℕ → Effect
kept_effect kind amount = cond (eqb kind 2) (Assign amount) (Add amount)

-- a kept update makes something of a value where it is the transaction's
abbrev pub kept_step : ℕ → ℕ → ℕ → ℕ → Value → Value
kept_step transaction kind amount n old = cond (eqb transaction n) (applied (kept_effect kind amount) old) old

-- what the first kept updates, as many as the count says, make of a value where they are the transaction's, in their order
abbrev pub kept_effects : List ℕ → List ℕ → List ℕ → ℕ → ℕ → Value → Value
kept_effects transactions kinds amounts n zero old = old
kept_effects transactions kinds amounts n (suc i) old =
    kept_step (get_or transactions i 0) (get_or kinds i 0) (get_or amounts i 0) n (kept_effects transactions kinds amounts n i old)

-- the kept updates do what the records do to the key, for each transaction
abbrev pub Does : ℕ → List Record → List ℕ → List ℕ → List ℕ → ℕ → Type 0
Does k rs transactions kinds amounts count =
    (n : ℕ) (old : Value) → kept_effects transactions kinds amounts n count old ≡ effects k (of n rs) old

-- a record is kept behind the others
pub record Grown (r : Record) (transactions kinds amounts : List ℕ) (n : ℕ) (transactions' kinds' amounts' : List ℕ) (n' : ℕ) : Type 0 where
  pub count : n' ≡ n + 1
  pub does :
      (m : ℕ) (old : Value) → kept_effects transactions' kinds' amounts' m n' old
      ≡ kept_step r.transaction r.kind r.value m (kept_effects transactions kinds amounts m n old)

-- a read of k in transaction n from a snapshot, where the value of k's base row is start
abbrev pub read_on : Value → List Record → ℕ → ℕ → ℕ → Value
read_on start rs n snapshot k = effects k (of n rs) (value start k snapshot rs)

-- the value of the row that was found, or absent
abbrev pub found_value : List ℕ → Option ℕ → Value
found_value values (Some i) = Some (get_or values i 0)
found_value values None = None
