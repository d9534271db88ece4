-- The bytes of two stores' files, computed: an empty store, and one after a checkpoint at 3 that left two registers. Assumes nothing.
use Rattle.std.specs.Prelude.{◌≡◌, ℕ, true, false, List, [], ◌∷◌, ◌++◌, refl}
use Rattle.store_file.specs.Layout.{signature, is_whole, head_of, base_keys, base_values, journal_of}

-- a number below 256 in four bytes
abbrev four : ℕ → List ℕ
four n = n ∷ 0 ∷ 0 ∷ 0 ∷ []

-- low 0, floor 1, no rows
abbrev pub none : List ℕ
none = signature ++ (four 0 ++ (four 0 ++ (four 1 ++ (four 0 ++ (169 ∷ 128 ∷ 229 ∷ 61 ∷ 47 ∷ 41 ∷ 60 ∷ 162 ∷ [])))))

-- low 3, floor 4, register 5 at 12 and register 9 at 7
abbrev pub two : List ℕ
two =
    signature
    ++ (four 3
    ++ (four 0
    ++ (four 4 ++ (four 2 ++ (four 5 ++ (four 12 ++ (four 9 ++ (four 7 ++ (140 ∷ 57 ∷ 40 ∷ 234 ∷ 251 ∷ 246 ∷ 243 ∷ 87 ∷ [])))))))))

none_whole : is_whole none ≡ true
none_whole = refl

two_whole : is_whole (two ++ (1 ∷ 0 ∷ [])) ≡ true
two_whole = refl

two_low : (head_of two).low ≡ 3
two_low = refl

two_floor : (head_of two).floor ≡ 4
two_floor = refl

two_keys : base_keys two ≡ 5 ∷ 9 ∷ []
two_keys = refl

two_values : base_values two ≡ 12 ∷ 7 ∷ []
two_values = refl

-- two bytes of a journal behind it
two_journal : journal_of (two ++ (1 ∷ 0 ∷ [])) ≡ 1 ∷ 0 ∷ []
two_journal = refl

-- layout 2 is another file
other_layout : is_whole (114 ∷ 101 ∷ 103 ∷ 2 ∷ (four 0 ++ (four 0 ++ (four 1 ++ (four 0 ++ (169 ∷ 128 ∷ 229 ∷ 61 ∷ 47 ∷ 41 ∷ 60 ∷ 162 ∷ [])))))) ≡ false
other_layout = refl
