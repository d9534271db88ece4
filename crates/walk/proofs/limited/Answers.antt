-- `walk::limited` meets its contract: a begin by the rows, an update by the keys written. Assumes nothing.
use mathlib.Core.Path.{◌≡◌, ap}
use mathlib.Core.List.{List}
use Prim.Native.Nat.{ℕ}
use lib.Dec.{ltb}
use Rattle.rules.specs.declared.Record.{Record}
use Rattle.rules.specs.Recovery.{limited}
use Rattle.record.specs.Records.{records_of}
use Rattle.walk.specs.declared.State.{State}
use Rattle.walk.specs.Walk.{Open}
use Rattle.walk.specs.Laws.{rows_count}
use Rattle.walk.proofs.limited.Goals as goal

module _ (rs : List Record) (r : Record) where
  begins : (s : State) → Open rs s → r.kind ≡ 1 → ltb s.count 8 ≡ limited rs r
  begins s o k = rw k (ap (λ (n : ℕ). ltb n 8) (rows_count rs s o))

pub returns-then-r-eq-BEGIN : goal.returns-then-r-eq-BEGIN
returns-then-r-eq-BEGIN c =
    let a = c.args in
    begins (records_of a.past) a.r a.s c.requires.1 c.if-r-eq-BEGIN.true
