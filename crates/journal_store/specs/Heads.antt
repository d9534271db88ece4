-- What accepted calls make of the head. Assumes nothing.
use Rattle.std.specs.Prelude.{List, ℕ, ◌+◌, length}
use Rattle.rules.specs.declared.Record.{Record}
use Rattle.rules.specs.Times.{next}
use Rattle.rules.specs.Recovery.{survivors}
use Rattle.rules.specs.Calls.{Store, next_of, list_of, kept_of}
use Rattle.journal_store.specs.declared.Head.{Head}

-- begin, update, abort and commit: one record more
abbrev pub grown : Head → Head
grown h = record { low = h.low; floor = h.floor; base = h.base; journal = record { used = h.journal.used + 1 } }

-- checkpoint: low becomes T, floor the next number, the base has the rows of the list and the journal the records kept
abbrev pub checkpoint_head : ℕ → Store → Head
checkpoint_head t s =
    record {
      low = t;
      floor = next_of s;
      base = record { rows = length (list_of t s) };
      journal = record { used = length (kept_of t s) };
    }

-- recover: floor is the next number before dropping, used the count of the records that are left
abbrev pub recovered_head : Head → List Record → Head
recovered_head h rs =
    record {
      low = h.low;
      floor = next h.floor rs;
      base = h.base;
      journal = record { used = length (survivors rs) };
    }
