-- Section 2: the limits, each under the name of what it limits. Assumes nothing.
use Rattle.std.specs.Prelude.{ℕ}

-- records of a journal
abbrev pub most_records : ℕ
most_records = 2048

-- rows of a base
abbrev pub most_rows : ℕ
most_rows = 512

-- versions of a map store
abbrev pub most_versions : ℕ
most_versions = 4096

-- transactions that run at a time
abbrev pub most_running : ℕ
most_running = 8

-- distinct keys that a transaction may write
abbrev pub most_keys : ℕ
most_keys = 32

-- where the transaction numbers end: a begin gets 1 to one less
abbrev pub numbers_end : ℕ
numbers_end = 4294967295
