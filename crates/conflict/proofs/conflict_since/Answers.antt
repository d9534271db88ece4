-- `conflict::conflict_since` meets its contract: rule 3.6 from the side of the other writers. Assumes nothing.
use mathlib.Core.Path.{◌≡◌, refl, ◌∙◌}
use mathlib.Core.Bool.{Bool}
use mathlib.Core.List.{List, [], ◌∷◌}
use Prim.Native.Nat.{ℕ}
use lib.ListN.{take}
use Rattle.rules.specs.declared.Record.{Record}
use Rattle.rules.specs.Transactions.{any, of, keys_written}
use Rattle.rules.specs.Conflicts.{conflict}
use Rattle.record.specs.Bytes.{records_in}
use Rattle.journal.specs.Gathered.{lates, Gathered}
use Rattle.conflict.specs.Keys.{assigns_of, met_in}
use Rattle.journal.specs.GatheredLaws.{late_held}
use Rattle.conflict.specs.KeysLaws.{keys_held, wrote_assigned}
use Rattle.conflict.specs.Meets.{meets, meets_conflict}
use Rattle.conflict.proofs.conflict_since.Goals as goal

-- tests that agree on every record agree on a list
any_same : (p q : Record → Bool) → ((r : Record) → p r ≡ q r) → (rs : List Record) → any p rs ≡ any q rs
any_same p q h [] = refl
any_same p q h (r ∷ rs) = rw (h r, any_same p q h rs)

module _ (n s used keys sets late : ℕ) (rs : List Record) (entry written entry₂ assigned entry₃ numbers : List ℕ)
    (w : Gathered (keys_written (of n rs)) used keys entry written) (a : Gathered (keys_written (assigns_of (of n rs))) used sets entry₂ assigned)
    (l : Gathered (lates s rs) used late entry₃ numbers) where
  -- the columns hold what the rule asks of a record
  same : (r : Record) → met_in (take keys written) (take sets assigned) (take late numbers) r ≡ meets rs (of n rs) s r
  same r =
      rw (
        keys_held (of n rs) used keys entry written w r.key,
        keys_held (assigns_of (of n rs)) used sets entry₂ assigned a r.key,
        wrote_assigned r.key (of n rs),
        late_held rs used late entry₃ numbers s l r.transaction,
      )

  told : (b : Bool) → b ≡ any (met_in (take keys written) (take sets assigned) (take late numbers)) rs → b ≡ conflict n s rs
  told b h = h ∙ any_same (met_in (take keys written) (take sets assigned) (take late numbers)) (meets rs (of n rs) s) same rs ∙ meets_conflict n s rs

pub returns : goal.returns
returns c =
    let a = c.args in
    told a.n a.s a.records.used _ _ _ (records_in a.records.used a.records.bytes.now) _ _ _ _ _ _ c.keys_written-keys.ensures c.keys_written-sets.ensures
    c.late_numbers-late.ensures _ c.any_met.ensures
