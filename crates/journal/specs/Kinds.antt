-- The base and the journal of an empty store. Assumes nothing.
use Rattle.journal.specs.declared.Base.{Base}
use Rattle.journal.specs.declared.Journal.{Journal}

-- no rows
abbrev pub empty_base : Base
empty_base = record { rows = 0 }

-- no records
abbrev pub empty_journal : Journal
empty_journal = record { used = 0 }
