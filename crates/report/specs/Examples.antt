-- Section 7's example and the refusals, computed from bytes to text. Assumes nothing.
use Rattle.std.specs.Prelude.{◌≡◌, refl, List, [], ◌∷◌, ◌++◌, ℕ, replicate}
use Rattle.rules.specs.declared.Record.{Record}
use Rattle.rules.specs.Kinds.{begun, assigned, added, committed}
use Rattle.record.specs.Bytes.{bytes_of}
use Rattle.decimal.specs.Digits.{digits, digits_in}
use Rattle.journal_store.specs.Shape.{empty_head}
use Rattle.report.specs.Text.{time_is, keys_is, key_is, value_is, refused_is, record_is, newline, report_text}

-- the bytes of some records, in journal order
abbrev bytes : List Record → List ℕ
bytes [] = []
bytes (r ∷ rs) = bytes_of r ++ bytes rs

-- what is printed for a journal alone
abbrev alone : List ℕ → ℕ → List ℕ
alone j survived = report_text empty_head [] [] j survived

-- section 7's input: nine records and ten zero bytes
abbrev seven : List ℕ
seven =
    bytes (
    begun 1 0 ∷ assigned 1 5 10 ∷ committed 1 2 ∷ begun 2 2 ∷ added 2 5 2 ∷ assigned 2 9 7 ∷ committed 2 3 ∷ begun 3 3 ∷ assigned 3 9 99 ∷ []
    ) ++ replicate 10 0

-- "time=3", "keys=2", "key=5 value=12", "key=9 value=7"
seven_text : alone seven 226
    ≡ time_is ++ (51 ∷ newline ++ (keys_is ++ (50 ∷ newline ++ (key_is ++ (53 ∷ value_is ++ (49 ∷ 50 ∷ newline ++ (key_is ++ (57 ∷ value_is ++ (55 ∷ newline)))))))))
unfolding digits digits_in
seven_text = refl

-- fewer bytes than a record: "time=0", "keys=0"
none_text : alone (replicate 23 7) 23 ≡ time_is ++ (48 ∷ newline ++ (keys_is ++ (48 ∷ newline)))
unfolding digits digits_in
none_text = refl

-- 24 zero bytes: "refused=13 record=0"
zeros_text : alone (replicate 24 0) 24 ≡ refused_is ++ (49 ∷ 51 ∷ record_is ++ (48 ∷ newline))
unfolding digits digits_in
zeros_text = refl

-- one byte too many, whatever the bytes: "refused=1 record=0"
long_text : (j : List ℕ) → alone j 49153 ≡ refused_is ++ (49 ∷ record_is ++ (48 ∷ newline))
unfolding digits digits_in
long_text j = refl
