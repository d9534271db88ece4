-- What a register holds: a number, or none, which is absent. 0 is an ordinary value and differs from absent. Assumes nothing.
use Rattle.std.specs.Prelude.{Option, ℕ}

abbrev pub Value : Type 0
Value = Option ℕ
