-- Section 7: the text of the listing program, line by line, and what it makes of a head, a base and the bytes of a journal. Assumes nothing.
use Rattle.std.specs.Prelude.{cond, List, [], ◌∷◌, ◌++◌, ℕ, ◌+◌, ◌*◌, length, Option, Some, None}
use Rattle.rules.specs.declared.Record.{Record}
use Rattle.rules.specs.Limits.{most_records, most_rows}
use Rattle.rules.specs.Times.{last}
use Rattle.rules.specs.Values.{Row}
use Rattle.rules.specs.Lists.{list_at}
use Rattle.rules.specs.Columns.{first_rows}
use Rattle.rules.specs.Recovery.{walk, survivors}
use Rattle.decimal.specs.Digits.{digits}
use Rattle.compact.specs.Compact.{compacted}
use Rattle.journal_store.specs.declared.Head.{Head}
use Rattle.journal_store.specs.CallContracts.{is_recoverable, surviving}

-- the one byte that ends a line
abbrev pub newline : List ℕ
newline = 10 ∷ []

-- "time="
abbrev pub time_is : List ℕ
time_is = 116 ∷ 105 ∷ 109 ∷ 101 ∷ 61 ∷ []

-- "keys="
abbrev pub keys_is : List ℕ
keys_is = 107 ∷ 101 ∷ 121 ∷ 115 ∷ 61 ∷ []

-- "key="
abbrev pub key_is : List ℕ
key_is = 107 ∷ 101 ∷ 121 ∷ 61 ∷ []

-- " value="
abbrev pub value_is : List ℕ
value_is = 32 ∷ 118 ∷ 97 ∷ 108 ∷ 117 ∷ 101 ∷ 61 ∷ []

-- "refused="
abbrev pub refused_is : List ℕ
refused_is = 114 ∷ 101 ∷ 102 ∷ 117 ∷ 115 ∷ 101 ∷ 100 ∷ 61 ∷ []

-- " record="
abbrev pub record_is : List ℕ
record_is = 32 ∷ 114 ∷ 101 ∷ 99 ∷ 111 ∷ 114 ∷ 100 ∷ 61 ∷ []

-- a name and its number
abbrev pub field : List ℕ → ℕ → List ℕ
field name n = name ++ digits n

-- a line of one number, and one of two
abbrev pub line : List ℕ → ℕ → List ℕ
line name n = field name n ++ newline

abbrev pub pair_line : List ℕ → ℕ → List ℕ → ℕ → List ℕ
pair_line first n second m = field first n ++ line second m

-- key=K value=V, one row a line
abbrev pub row_lines : List Row → List ℕ
row_lines [] = []
row_lines (row ∷ rows) = pair_line key_is row.key value_is row.value ++ row_lines rows

-- time=LAST, keys=COUNT, and the rows
abbrev pub listing : ℕ → List Row → List ℕ
listing time rows = line time_is time ++ (line keys_is (length rows) ++ row_lines rows)

-- the list at last of some records above a base, from low on
abbrev pub list_text : ℕ → List Row → List Record → List ℕ
list_text low base rs = listing (last low rs) (list_at base rs (last low rs))

-- refused=N record=P
abbrev pub refused_text : ℕ → ℕ → List ℕ
refused_text n place = pair_line refused_is n record_is place

-- the base of a head and two columns: the rows that the head counts
abbrev pub base_of : Head → List ℕ → List ℕ → List Row
base_of h keys values = first_rows h.base.rows keys values

-- after the walk: the list of what recovery keeps, or refusal 13 with its place
abbrev pub walked_text : Option ℕ → ℕ → List Row → List Record → List ℕ
walked_text None low base rs = list_text low base (survivors rs)
walked_text (Some place) low base rs = refused_text 13 place

-- the whole output, from a head, its base and the bytes of a journal of which so many survived; what cannot be recovered by its shape is refusal 1
abbrev pub report_text : Head → List ℕ → List ℕ → List ℕ → ℕ → List ℕ
report_text h keys values j survived =
    cond (is_recoverable h keys (length values) (length j) survived)
    (walked_text (walk h.low (surviving survived j)) h.low (base_of h keys values) (surviving survived j))
    (refused_text 1 0)

-- the journal afterwards: as section 5 leaves it where it was accepted, and as it was where it was refused
abbrev pub walked_cells : Option ℕ → List ℕ → ℕ → List ℕ
walked_cells None j survived = compacted (survivors (surviving survived j)) survived j
walked_cells (Some place) j survived = j

abbrev pub report_cells : Head → List ℕ → List ℕ → List ℕ → ℕ → List ℕ
report_cells h keys values j survived =
    cond (is_recoverable h keys (length values) (length j) survived) (walked_cells (walk h.low (surviving survived j)) j survived) j

-- the most bytes of a row's line: its names, two numbers of 32 bits, and the newline
abbrev pub row_bytes : ℕ
row_bytes = 32

-- the most rows of a list: one for each row of the base and for each record
abbrev pub most_listed : ℕ
most_listed = most_rows + most_records

-- the most bytes of the text: the line of the time, a number of 64 bits, the line of the count, at most 2,560, and as many rows
abbrev pub text_bytes : ℕ
text_bytes = 26 + 10 + most_listed * row_bytes
