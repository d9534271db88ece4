-- Four versions, computed: key 5 at 1, 3 and 3, key 7 at 2, which adds alone made. Assumes nothing.
use Rattle.std.specs.Prelude.{◌≡◌, refl, true, false, List, [], ◌∷◌, Some, None}
use Rattle.versions.specs.declared.Version.{Version}
use Rattle.versions.specs.Versions.{Columns, columns, versions_of, newest, row_of, value_at, later, kept_from, list_at}
use Rattle.versions.specs.Columns.{column, thinned}

-- five rows, of which the last is not used
abbrev cells : Columns
cells = columns (5 ∷ 7 ∷ 5 ∷ 5 ∷ 9 ∷ []) (1 ∷ 2 ∷ 3 ∷ 3 ∷ 1 ∷ []) (10 ∷ 20 ∷ 30 ∷ 0 ∷ 40 ∷ []) (0 ∷ 2 ∷ 0 ∷ 0 ∷ 0 ∷ [])

abbrev four : List Version
four = versions_of 4 cells

-- the earliest row among equals
earliest : row_of (newest 5 9 four) ≡ Some 2
earliest = refl

-- a version at t counts, one after t does not
at_t : value_at 5 3 four ≡ Some 30
at_t = refl

before_t : value_at 5 2 four ≡ Some 10
before_t = refl

after_t : value_at 7 1 four ≡ None
after_t = refl

-- the row behind the used ones does not count
unused : value_at 9 9 four ≡ None
unused = refl

-- later is after the snapshot, not at it
later_than_2 : later 2 5 false four ≡ true
later_than_2 = refl

later_than_3 : later 3 5 false four ≡ false
later_than_3 = refl

-- of two transactions that meet one must have assigned: the mark excuses an adder alone, and an adder from a marked version alone
both_add : later 1 7 true four ≡ false
both_add = refl

one_assigns : later 1 7 false four ≡ true
one_assigns = refl

other_assigned : later 2 5 true four ≡ true
other_assigned = refl

-- a checkpoint at 3 keeps each key's newest, the first of two equals
kept_at_3 : column (λ v. v.value) (kept_from 3 four) ≡ 20 ∷ 30 ∷ []
kept_at_3 = refl

-- one at 2 keeps what is later too
kept_at_2 : column (λ v. v.value) (kept_from 2 four) ≡ 10 ∷ 20 ∷ 30 ∷ 0 ∷ []
kept_at_2 = refl

-- a kept row keeps its mark, freed rows are zero, and the row behind the used ones stays
thinned_at_3 : thinned 3 4 cells ≡ columns (7 ∷ 5 ∷ 0 ∷ 0 ∷ 9 ∷ []) (2 ∷ 3 ∷ 0 ∷ 0 ∷ 1 ∷ []) (20 ∷ 30 ∷ 0 ∷ 0 ∷ 40 ∷ []) (2 ∷ 0 ∷ 0 ∷ 0 ∷ 0 ∷ [])
thinned_at_3 = refl

-- the list at 3
list_at_3 : list_at four 3 ≡ record { key = 5; value = 30 } ∷ record { key = 7; value = 20 } ∷ []
list_at_3 = refl
