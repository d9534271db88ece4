-- What `open` promises: its answer, and every cell of the two lent columns. Assumes nothing.
use Rattle.std.specs.Prelude.{◌≡◌, ℕ, cond, List, ◌++◌, drop, Option, Some, None}
use Rattle.journal_store.specs.declared.Head.{Head}
use Rattle.store_file.specs.Layout.{row_count, journal_at, is_whole, head_of, base_keys, base_values}

-- the head of a whole store and where its journal starts
abbrev pub Opened : Type 0
Opened = Option (Head × ℕ)

abbrev pub opened_of : List ℕ → Opened
opened_of file = cond (is_whole file) (Some (head_of file, journal_at file)) None

-- a column with the base's numbers at its front where the file is a whole store, else as it was
abbrev pub lent_after : List ℕ → List ℕ → List ℕ → List ℕ
lent_after file numbers lent = cond (is_whole file) (numbers ++ drop (row_count file) lent) lent

pub record OpenedBy (file keys values : List ℕ) (r : Opened) (keys' values' : List ℕ) : Type 0 where
  pub answer : r ≡ opened_of file
  pub keys_column : keys' ≡ lent_after file (base_keys file) keys
  pub values_column : values' ≡ lent_after file (base_values file) values
