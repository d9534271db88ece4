-- Section 4: the kinds of records, as tests on a record, and the record that each accepted call writes. Assumes nothing.
use Rattle.std.specs.Prelude.{ℕ, Bool, ◌||◌, ◌==◌}
use Rattle.rules.specs.declared.Record.{Record}

-- how many bytes a record takes
abbrev pub record_size : ℕ
record_size = 24

-- kind 1
abbrev pub is_begin : Record → Bool
is_begin r = r.kind == 1

-- kind 2
abbrev pub is_assign : Record → Bool
is_assign r = r.kind == 2

-- kind 2 or 3
abbrev pub is_update : Record → Bool
is_update r = is_assign r || r.kind == 3

-- kind 4
abbrev pub is_commit : Record → Bool
is_commit r = r.kind == 4

-- a commit or an abort
abbrev pub is_end : Record → Bool
is_end r = is_commit r || r.kind == 5

-- begin of transaction n, whose snapshot is t
abbrev pub begun : ℕ → ℕ → Record
begun n t = record { kind = 1; zeros = 0; transaction = n; key = 0; value = 0; time = t }

-- transaction n assigns v to k
abbrev pub assigned : ℕ → ℕ → ℕ → Record
assigned n k v = record { kind = 2; zeros = 0; transaction = n; key = k; value = v; time = 0 }

-- transaction n adds d to k
abbrev pub added : ℕ → ℕ → ℕ → Record
added n k d = record { kind = 3; zeros = 0; transaction = n; key = k; value = d; time = 0 }

-- commit of transaction n at t
abbrev pub committed : ℕ → ℕ → Record
committed n t = record { kind = 4; zeros = 0; transaction = n; key = 0; value = 0; time = t }

-- abort of transaction n
abbrev pub aborted : ℕ → Record
aborted n = record { kind = 5; zeros = 0; transaction = n; key = 0; value = 0; time = 0 }
