-- `walk::clear` meets its contract: the conflict test with the snapshot that the state holds. Assumes nothing.
use mathlib.Core.Path.{◌≡◌, ap, ◌∙◌}
use mathlib.Core.Bool.{Bool, true, not}
use mathlib.Core.List.{List}
use Prim.Native.Nat.{ℕ}
use borrow.Author.Tests.{eq-eqb}
use Rattle.rules.specs.declared.Record.{Record}
use Rattle.rules.specs.Kinds.{is_commit}
use Rattle.rules.specs.Transactions.{runs, snapshot}
use Rattle.rules.specs.Conflicts.{conflict}
use Rattle.rules.specs.Recovery.{clear}
use Rattle.record.specs.Records.{records_of}
use Rattle.walk.specs.declared.State.{State}
use Rattle.walk.specs.Walk.{Open, SnapshotOf}
use Rattle.walk.specs.Laws.{rows_run}
use Rattle.walk.proofs.clear.Goals as goal

commits : (rs : List Record) (r : Record) (s : State) (v : ℕ) (b : Bool) → Open rs s → (is_commit r ≡ true → runs r.transaction rs ≡ true)
    → r.kind ≡ 4 → SnapshotOf s r.transaction v → b ≡ conflict r.transaction v rs → not b ≡ clear rs r
commits rs r s v b o h k q e =
    let t : v ≡ snapshot r.transaction rs =
    q (λ m. snapshot m rs) o.held (rows_run rs s o r.transaction ∙ h (eq-eqb r.kind 4 k))
    in
    rw k (ap not (e ∙ ap (λ (x : ℕ). conflict r.transaction x rs) t))

pub returns : goal.returns
returns c =
    let a = c.args in
    commits (records_of a.past) a.r a.s _ _ c.requires.1 c.requires.3 c.if-r-ne-COMMIT.false c.snapshot-snapshot.ensures c.conflict.ensures
