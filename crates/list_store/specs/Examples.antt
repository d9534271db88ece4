-- Files and what is printed for them, computed from bytes to text. Assumes nothing.
use Rattle.std.specs.Prelude.{◌≡◌, refl, [], ◌∷◌, ◌++◌}
use Rattle.decimal.specs.Digits.{digits, digits_in}
use Rattle.report.specs.Text.{time_is, keys_is, key_is, value_is, newline}
use Rattle.store_file.specs.Examples.{none, two}
use Rattle.list_store.specs.Text.{no_store, store_text}

-- an empty store: "time=0", "keys=0"
none_text : store_text none ≡ time_is ++ (48 ∷ newline ++ (keys_is ++ (48 ∷ newline)))
unfolding digits digits_in
none_text = refl

-- two registers in the base and no journal: "time=3", "keys=2", "key=5 value=12", "key=9 value=7"
two_text : store_text two
    ≡ time_is ++ (51 ∷ newline ++ (keys_is ++ (50 ∷ newline ++ (key_is ++ (53 ∷ value_is ++ (49 ∷ 50 ∷ newline ++ (key_is ++ (57 ∷ value_is ++ (55 ∷ newline)))))))))
unfolding digits digits_in
two_text = refl

-- no bytes at all
empty_text : store_text [] ≡ no_store
empty_text = refl
