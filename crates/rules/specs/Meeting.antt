-- What a test of a transaction's own records must not see: it reads the update records alone, so that one record more of another kind, and begins that are
-- raised, leave it as it is. Whether two transactions met on a key is such a test. Assumes nothing.
use Rattle.std.specs.Prelude.{◌≡◌, ℕ, Bool, false, cond, not, ◌&&◌, List, [], ◌∷◌, ◌==◌, refl}
use Rattle.std.proofs.Common.{ap, ap₂, sym, ◌∙◌}
use Rattle.rules.specs.declared.Record.{Record}
use Rattle.rules.specs.Bools.{split, or_none_left}
use Rattle.rules.specs.Kinds.{is_assign, is_update}
use Rattle.rules.specs.Effects.{assigns}
use Rattle.rules.specs.Transactions.{any, of, wrote}
use Rattle.rules.specs.Conflicts.{only_added, met_on, touched}

-- the update records of some records
abbrev pub updates_of : List Record → List Record
updates_of [] = []
updates_of (r ∷ own) = cond (is_update r) (r ∷ updates_of own) (updates_of own)

-- a test that reads the update records alone
abbrev pub ReadsUpdates : (List Record → Bool) → Type 0
ReadsUpdates test = (own other : List Record) → updates_of own ≡ updates_of other → test own ≡ test other

-- what was written is told by the updates
wrote_updates : (k : ℕ) (own : List Record) → wrote k own ≡ wrote k (updates_of own)
wrote_updates k [] = refl
wrote_updates k (r ∷ own) = split (is_update r) (λ u. rw (u, u, wrote_updates k own)) (λ u. rw (u, wrote_updates k own))

pub wrote_reads : (k : ℕ) → ReadsUpdates (wrote k)
wrote_reads k own other e = wrote_updates k own ∙ ap (wrote k) e ∙ sym (wrote_updates k other)

-- and so is what was assigned
assigned_updates : (k : ℕ) (own : List Record) → any (assigns k) own ≡ any (assigns k) (updates_of own)
assigned_updates k [] = refl
assigned_updates k (r ∷ own) =
    split (is_update r)
    (λ u. rw (u, assigned_updates k own))
    (λ u. rw (u, or_none_left (is_assign r) (r.kind == 3) u, assigned_updates k own))

pub added_reads : (k : ℕ) → ReadsUpdates (only_added k)
added_reads k own other e = ap not (assigned_updates k own ∙ ap (any (assigns k)) e ∙ sym (assigned_updates k other))

pub met_reads : (k : ℕ) (own : List Record) → ReadsUpdates (met_on k own)
met_reads k own a b e =
    ap₂ (λ (w o : Bool). wrote k own && (w && not (only_added k own && o))) (wrote_reads k a b e) (added_reads k a b e)

-- the other way round too
pub met_own_reads : (k : ℕ) (other : List Record) → ReadsUpdates (λ own. met_on k own other)
met_own_reads k other a b e =
    ap₂ (λ (w o : Bool). w && (wrote k other && not (o && only_added k other))) (wrote_reads k a b e) (added_reads k a b e)

-- a record that is no update is not seen
pub test_skip : (test : List Record → Bool) → ReadsUpdates test → (r : Record) → is_update r ≡ false → (m : ℕ) (rs : List Record)
    → test (of m (r ∷ rs)) ≡ test (of m rs)
test_skip test reads r h m rs =
    split (r.transaction == m) (λ q. reads (of m (r ∷ rs)) (of m rs) (rw (q, h))) (λ q. rw q)

-- tests that agree on every transaction find the same
pub touched_same : (whole : List Record) (s : ℕ) (test test' : List Record → Bool) → ((own : List Record) → test own ≡ test' own) → (rs : List Record)
    → touched whole s test rs ≡ touched whole s test' rs
touched_same whole s test test' h [] = refl
touched_same whole s test test' h (c ∷ rs) = rw (h (of c.transaction whole), touched_same whole s test test' h rs)
