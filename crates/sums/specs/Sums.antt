-- Sums of cells, and cells that are filled. Assumes nothing.
use Rattle.std.specs.Prelude.{◌≡◌, ℕ, zero, suc, ◌+◌, ◌-◌, ◌*◌, ◌/◌, ◌%◌, ◌^◌, min, List, [], ◌∷◌, length, bit_or, slice_set}

-- a sum with one number more: its 64 bits turn round by seven, and none is lost
abbrev pub more : ℕ → ℕ → ℕ
more sum x = (bit_or (sum * 2 ^ 7 % 2 ^ 64) (sum / 2 ^ 57) + x) % 2 ^ 64

-- with three numbers more
abbrev pub three : ℕ → ℕ → ℕ → ℕ → ℕ
three sum x y z = more (more (more sum x) y) z

-- with every cell of a column more
abbrev pub total : ℕ → List ℕ → ℕ
total sum [] = sum
total sum (x ∷ column) = total (more sum x) column

-- r is the sum with every cell of a column more, where a test says which number a cell is
abbrev pub Totals : {T : Type 0} → (T → ℕ → Type 0) → ℕ → List T → ℕ → Type 0
Totals is sum [] r = r ≡ sum
Totals is sum (x ∷ column) r = (n : ℕ) × is x n × Totals is (more sum n) column r

-- so many bytes from a place on get a value
abbrev pub fill_on : ℕ → List ℕ → ℕ → ℕ → List ℕ
fill_on value bytes i zero = bytes
fill_on value bytes i (suc left) = fill_on value (slice_set bytes i value) (i + 1) left

-- the bytes from a place up to another get a value, as far as there are bytes
unfoldable pub filled : List ℕ → ℕ → ℕ → ℕ → List ℕ
filled bytes start stop value = fill_on value bytes start (min stop (length bytes) - start)
