-- Small examples of the rules, computed. Assumes nothing.
use Rattle.std.specs.Prelude.{◌≡◌, ℕ, true, false, List, [], ◌∷◌, refl, Some, None}
use Rattle.rules.specs.declared.Record.{Record}
use Rattle.rules.specs.declared.Effect.TheVariants.{Assign, Add}
use Rattle.rules.specs.Kinds.{begun, assigned, added, committed, aborted}
use Rattle.rules.specs.Effects.{applied, joined}
use Rattle.rules.specs.Transactions.{runs, snapshot, wrote, of, keys_written, running}
use Rattle.rules.specs.Times.{last, next}
use Rattle.rules.specs.Values.{Row, value_at, read_in}
use Rattle.rules.specs.Lists.{list_at}
use Rattle.rules.specs.Conflicts.{conflict}

-- rule 3.1: adding 0 to an absent key makes it present with 0
add_nothing : applied (Add 0) None ≡ Some 0
add_nothing = refl

-- rule 3.1: the sum is taken modulo 4,294,967,296
add_wraps : applied (Add 3) (Some 4294967295) ≡ Some 2
add_wraps = refl

-- section 7's journal, the newest first
abbrev seven : List Record
seven =
    assigned 3 9 99
    ∷ begun 3 3
    ∷ committed 2 3
    ∷ assigned 2 9 7
    ∷ added 2 5 2
    ∷ begun 2 2
    ∷ committed 1 2
    ∷ assigned 1 5 10
    ∷ begun 1 0
    ∷ []

-- rule 3.2
three_runs : runs 3 seven ≡ true
three_runs = refl

two_ended : runs 2 seven ≡ false
two_ended = refl

three_alone : running seven ≡ 3 ∷ []
three_alone = refl

two_snapshot : snapshot 2 seven ≡ 2
two_snapshot = refl

two_wrote : wrote 5 (of 2 seven) ≡ true
two_wrote = refl

two_keys : keys_written (of 2 seven) ≡ 9 ∷ 5 ∷ []
two_keys = refl

-- an end that stands before the begin counts as well
ended_before : running (begun 1 0 ∷ aborted 1 ∷ []) ≡ []
ended_before = refl

-- rule 3.3
seven_last : last 0 seven ≡ 3
seven_last = refl

seven_next : next 1 seven ≡ 4
seven_next = refl

next_capped : next 1 (begun 4294967295 0 ∷ []) ≡ 4294967295
next_capped = refl

-- rule 3.4: a commit at t is visible at t, an update without its commit never
five_before : value_at [] seven 2 5 ≡ Some 10
five_before = refl

nine_absent : value_at [] seven 2 9 ≡ None
nine_absent = refl

nine_later : value_at [] seven 99 9 ≡ Some 7
nine_later = refl

-- the first of several base rows for a key counts
abbrev twice : List Row
twice = record { key = 9; value = 1 } ∷ record { key = 9; value = 2 } ∷ []

first_counts : value_at twice [] 0 9 ≡ Some 1
first_counts = refl

-- an update behind its commit has no effect
behind : value_at [] (assigned 1 5 6 ∷ committed 1 1 ∷ begun 1 0 ∷ []) 1 5 ≡ None
behind = refl

seven_listed : list_at [] seven 3 ≡ record { key = 5; value = 12 } ∷ record { key = 9; value = 7 } ∷ []
seven_listed = refl

-- rule 3.5
three_reads : read_in [] seven 3 (snapshot 3 seven) 9 ≡ Some 99
three_reads = refl

-- rule 3.6: two transactions from the same snapshot, of which the first commits; what each did to key 5
abbrev both : (ℕ → ℕ → ℕ → Record) → (ℕ → ℕ → ℕ → Record) → List Record
both first second = committed 1 1 ∷ second 2 5 1 ∷ begun 2 0 ∷ first 1 5 1 ∷ begun 1 0 ∷ []

adders_pass : conflict 2 0 (both added added) ≡ false
adders_pass = refl

adder_conflicts : conflict 2 0 (both assigned added) ≡ true
adder_conflicts = refl

assigner_conflicts : conflict 2 0 (both added assigned) ≡ true
assigner_conflicts = refl

assigners_conflict : conflict 2 0 (both assigned assigned) ≡ true
assigners_conflict = refl

-- both totals stand in the list
adders_listed : list_at [] (committed 2 2 ∷ both added added) 2 ≡ record { key = 5; value = 2 } ∷ []
adders_listed = refl

-- one assign is enough, wherever it stands among the adds
once_assigned : conflict 2 0 (added 2 5 1 ∷ both added assigned) ≡ true
once_assigned = refl

-- an assign of a number counts also behind its commit
assigned_behind : conflict 2 0 (assigned 1 5 7 ∷ both added added) ≡ true
assigned_behind = refl

first_clear : conflict 1 0 (assigned 2 5 1 ∷ begun 2 0 ∷ assigned 1 5 1 ∷ begun 1 0 ∷ []) ≡ false
first_clear = refl

-- effects as one: adds come to a total, an add to an assign is an assign
totals : joined (Add 4294967295) (Add 3) ≡ Add 2
totals = refl

assign_stays : joined (Assign 7) (Add 3) ≡ Assign 10
assign_stays = refl

assign_overrides : joined (Add 3) (Assign 7) ≡ Assign 7
assign_overrides = refl
