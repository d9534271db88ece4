-- A record spelled out, computed: transaction 1 assigns 10 to key 5. Assumes nothing.
use Rattle.std.specs.Prelude.{◌≡◌, refl, List, [], ◌∷◌, ℕ}
use Rattle.rules.specs.Kinds.{assigned}
use Rattle.record.specs.Bytes.{bytes_of, record_at}

-- byte 0 is the kind, 1 to 3 are zero, then transaction, key, value and time
abbrev assignment : List ℕ
assignment =
    2 ∷ 0 ∷ 0 ∷ 0 ∷ 1 ∷ 0 ∷ 0 ∷ 0 ∷ 5 ∷ 0 ∷ 0 ∷ 0 ∷ 10 ∷ 0 ∷ 0 ∷ 0 ∷ 0 ∷ 0 ∷ 0 ∷ 0 ∷ 0 ∷ 0 ∷ 0 ∷ 0 ∷ []

pub spelled : bytes_of (assigned 1 5 10) ≡ assignment
spelled = refl

pub read_back : record_at assignment 0 ≡ assigned 1 5 10
read_back = refl
