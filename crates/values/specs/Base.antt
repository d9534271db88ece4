-- The base rows that are lent. Assumes nothing.
use Rattle.std.specs.Prelude.{List}
use Rattle.rules.specs.Values.{Row}
use Rattle.rules.specs.Columns.{first_rows}
use Rattle.values.specs.declared.base.BaseRows.{BaseRows}

abbrev pub base_rows : BaseRows → List Row
base_rows b = first_rows b.count b.keys.now b.values.now
