-- What the parts of a checkpoint make of the head and the columns. Assumes nothing.
use Rattle.std.specs.Prelude.{◌≡◌, Bool, cond, ℕ}
use Rattle.versions.specs.Versions.{Columns, versions_of}
use Rattle.versions.specs.Columns.{thinned}
use Rattle.map_store.specs.declared.MapHead.{MapHead}
use Rattle.map_store.specs.Heads.{kept_head}

-- what a checkpoint that is accepted or not makes of the head and the columns
pub record Thinned (t : ℕ) (h : MapHead) (cs : Columns) (accepted : Bool) (head : MapHead) (cs' : Columns) : Type 0 where
  pub headed : head ≡ cond accepted (kept_head t h (versions_of h.used cs)) h
  pub cells : cs' ≡ cond accepted (thinned t h.used cs) cs
