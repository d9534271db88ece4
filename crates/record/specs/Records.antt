-- The records that a journal's used ones spell, the newest first. Assumes nothing.
use Rattle.std.specs.Prelude.{List}
use Rattle.rules.specs.declared.Record.{Record}
use Rattle.record.specs.Bytes.{records_in}
use Rattle.record.specs.declared.Records.{Records}

abbrev pub records_of : Records → List Record
records_of r = records_in r.used r.bytes.now
