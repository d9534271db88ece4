-- The keys that a transaction wrote or assigned, as columns hold them, and the records of others that meet it there. Assumes nothing.
use Rattle.std.specs.Prelude.{Bool, true, false, cond, not, ◌&&◌, List, [], ◌∷◌, ℕ, eqb}
use Rattle.rules.specs.declared.Record.{Record}
use Rattle.rules.specs.Kinds.{is_assign, is_update}
use Rattle.rules.specs.Lists.{among}

-- an update or, where adds do not count, an assign
abbrev pub counted : Bool → Record → Bool
counted adds r = cond adds (is_update r) (is_assign r)

-- the assigns of some records
abbrev pub assigns_of : List Record → List Record
assigns_of [] = []
assigns_of (r ∷ own) = cond (is_assign r) (r ∷ assigns_of own) (assigns_of own)

-- some records or, where adds do not count, the assigns of them
abbrev pub counting : Bool → List Record → List Record
counting true own = own
counting false own = assigns_of own

-- a record of transaction n that counts, of a key that is not in a column yet
abbrev pub new_key : ℕ → Bool → List ℕ → Record → Bool
new_key n adds keys r = eqb r.transaction n && (counted adds r && not (among r.key keys))

-- an assign of one of the keys written, or an add to one of those assigned
abbrev pub meeting : List ℕ → List ℕ → Record → Bool
meeting written assigned r = cond (is_assign r) (among r.key written) (eqb r.kind 3 && among r.key assigned)

-- the same by one of some transactions
abbrev pub met_in : List ℕ → List ℕ → List ℕ → Record → Bool
met_in written assigned numbers r = meeting written assigned r && among r.transaction numbers
