-- Examples that compute: digits of numbers up to the greatest of 32 and of 64 bits, a string that spells, and one with a leading zero.
-- Assumes nothing.
use Rattle.std.specs.Prelude.{◌≡◌, refl, [], ◌∷◌}
use Rattle.std.proofs.Common.{arith}
use Rattle.decimal.specs.Digits.{digits, digits_in, spell, Plain}

-- "0"
of_0 : digits 0 ≡ 48 ∷ []
unfolding digits digits_in
of_0 = refl

-- "7"
of_7 : digits 7 ≡ 55 ∷ []
unfolding digits digits_in
of_7 = refl

-- "10"
of_10 : digits 10 ≡ 49 ∷ 48 ∷ []
unfolding digits digits_in
of_10 = refl

-- "4294967295"
of_4294967295 : digits 4294967295 ≡ 52 ∷ 50 ∷ 57 ∷ 52 ∷ 57 ∷ 54 ∷ 55 ∷ 50 ∷ 57 ∷ 53 ∷ []
unfolding digits digits_in
of_4294967295 = refl

-- "18446744073709551615"
of_18446744073709551615 : digits 18446744073709551615
    ≡ 49 ∷ 56 ∷ 52 ∷ 52 ∷ 54 ∷ 55 ∷ 52 ∷ 52 ∷ 48 ∷ 55 ∷ 51 ∷ 55 ∷ 48 ∷ 57 ∷ 53 ∷ 53 ∷ 49 ∷ 54 ∷ 49 ∷ 53 ∷ []
unfolding digits digits_in
of_18446744073709551615 = refl

-- "4096" spells 4096
spells_4096 : spell (52 ∷ 48 ∷ 57 ∷ 54 ∷ []) ≡ 4096
spells_4096 = refl

-- "07" spells 7 too, and is not plain
spells_7 : spell (48 ∷ 55 ∷ []) ≡ 7
spells_7 = refl

leading_zero : Plain (48 ∷ 55 ∷ []) → ⊥
leading_zero p = omega (arith, p.first refl)
