-- A test that some record of a list passes, and the record that passes it. Assumes nothing.
use Rattle.std.specs.Prelude.{◌≡◌, refl, Bool, true, ℕ, eqb}
use Rattle.std.proofs.Common.{sym, ap, ◌∙◌, ⊎_elim}
use Rattle.std.proofs.lemmas.Bool.{false≢true}
use mathlib.Core.List.Memᴰ
use mathlib.Core.List.{List, [], ◌∷◌, Memᴰ}
use Rattle.rules.specs.declared.Record.{Record}
use Rattle.rules.specs.Bools.{split, or_left, or_right}
use Rattle.rules.specs.Transactions.{any, of}

-- a record of the list that passes the test
pub record Some (p : Record → Bool) (rs : List Record) : Type 0 where
  pub at : Record
  pub here : Memᴰ at rs
  pub passes : p at ≡ true

pub any_some : (p : Record → Bool) (rs : List Record) → any p rs ≡ true → Some p rs
any_some p [] h = absurd (false≢true h)
any_some p (r ∷ rs) h =
    split (p r)
    (λ e. record { at = r; here = Memᴰ.head refl; passes = e })
    (λ e. let s = any_some p rs (rw e at h) in record { at = s.at; here = Memᴰ.tail s.here; passes = s.passes })

pub some_any : (p : Record → Bool) (r : Record) (rs : List Record) → Memᴰ r rs → p r ≡ true → any p rs ≡ true
some_any p r [] m h = elim m [ ]
some_any p r (x ∷ rs) (Memᴰ.head e) h = or_left (p x) (any p rs) (sym (ap p e) ∙ h)
some_any p r (x ∷ rs) (Memᴰ.tail m) h = or_right (p x) (any p rs) (some_any p r rs m h)

-- the records of a transaction are those records of the list that have its number
pub in_of : (n : ℕ) (r : Record) (rs : List Record) → Memᴰ r rs → eqb r.transaction n ≡ true → Memᴰ r (of n rs)
in_of n r [] m h = elim m [ ]
in_of n r (x ∷ rs) (Memᴰ.head e) h =
    let g : eqb x.transaction n ≡ true = sym (ap (λ (y : Record). eqb y.transaction n) e) ∙ h in rw g (Memᴰ.head e)
in_of n r (x ∷ rs) (Memᴰ.tail m) h =
    split (eqb x.transaction n) (λ g. rw g (Memᴰ.tail (in_of n r rs m h))) (λ g. rw g (in_of n r rs m h))

pub of_in : (n : ℕ) (r : Record) (rs : List Record) → Memᴰ r (of n rs) → Memᴰ r rs × (eqb r.transaction n ≡ true)
of_in n r [] m = absurd (Memᴰ.not-nil m)
of_in n r (x ∷ rs) m =
    split (eqb x.transaction n)
    (λ g.
    ⊎_elim
    (λ e. (Memᴰ.head e, ap (λ (y : Record). eqb y.transaction n) e ∙ g))
    (λ l. let o = of_in n r rs l in (Memᴰ.tail o.0, o.1))
    (Memᴰ.cases_cons (rw g at m)))
    (λ g. let o = of_in n r rs (rw g at m) in (Memᴰ.tail o.0, o.1))
