-- docs/FILE.md, layout 1: what the bytes of a store's file say, and when they are those of a whole store. Assumes nothing.
use Rattle.std.specs.Prelude.{ℕ, zero, suc, ◌+◌, ◌*◌, ◌%◌, ◌^◌, Bool, ◌&&◌, List, [], ◌∷◌, length, take, drop, ◌==◌, nat_le}
use Rattle.rules.specs.Limits.{most_rows}
use Rattle.record.specs.Bytes.{le, field_at}
use Rattle.journal.specs.Kinds.{empty_journal}
use Rattle.journal_store.specs.declared.Head.{Head}

-- "reg", and the layout number
abbrev pub signature : List ℕ
signature = 114 ∷ 101 ∷ 103 ∷ 1 ∷ []

-- the bytes before the base rows, those of a row, and those of the check sum
abbrev pub head_bytes : ℕ
head_bytes = 20

abbrev pub base_row_bytes : ℕ
base_row_bytes = 8

abbrev pub sum_bytes : ℕ
sum_bytes = 8

-- how many base rows the head counts
abbrev pub row_count : List ℕ → ℕ
row_count file = field_at file 16 4

-- where the base ends and the check sum starts, and where the journal does
abbrev pub base_end : List ℕ → ℕ
base_end file = head_bytes + row_count file * base_row_bytes

abbrev pub journal_at : List ℕ → ℕ
journal_at file = base_end file + sum_bytes

-- the check sum: times a factor and plus a byte, modulo 2 to the power 64, byte after byte
abbrev pub sum_start : ℕ
sum_start = 14695981039346656037

abbrev pub sum_factor : ℕ
sum_factor = 1099511628211

abbrev pub sum_from : ℕ → List ℕ → ℕ
sum_from s [] = s
sum_from s (b ∷ bs) = sum_from ((s * sum_factor + b) % 2 ^ 64) bs

abbrev pub sum_of : List ℕ → ℕ
sum_of bs = sum_from sum_start bs

-- the signature is there, the rows are within their limit and there, and the check sum is that of all bytes before it
abbrev pub is_whole : List ℕ → Bool
is_whole file =
    nat_le (head_bytes + sum_bytes) (length file)
    && (field_at file 0 4 == le signature
    && (nat_le (row_count file) most_rows
    && (nat_le (journal_at file) (length file) && sum_of (take (base_end file) file) == field_at file (base_end file) 8)))

-- low, floor and the count of base rows; the used count is not stored
abbrev pub head_of : List ℕ → Head
head_of file = record { low = field_at file 4 8; floor = field_at file 12 4; base = record { rows = row_count file }; journal = empty_journal }

-- one number of each row, from a byte on
abbrev pub column_of : List ℕ → ℕ → ℕ → List ℕ
column_of file at zero = []
column_of file at (suc rows) = field_at file at 4 ∷ column_of file (at + base_row_bytes) rows

-- the keys and the values of the base
abbrev pub base_keys : List ℕ → List ℕ
base_keys file = column_of file head_bytes (row_count file)

abbrev pub base_values : List ℕ → List ℕ
base_values file = column_of file (head_bytes + 4) (row_count file)

-- the journal's bytes: all that stand behind the check sum
abbrev pub journal_of : List ℕ → List ℕ
journal_of file = drop (journal_at file) file
