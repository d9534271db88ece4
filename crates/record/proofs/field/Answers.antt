-- `record::field` meets its contract: four bytes are what `four` reads, and eight are the high four above the low four. Assumes nothing.
use mathlib.Core.List.{List}
use Prim.Native.Nat.{ℕ, ◌+◌, ◌*◌, ◌≤◌}
use native.Mathlib.Omega.{arith}
use lib.ListN.{length}
use Rattle.record.specs.declared.Width.TheVariants.{Four, Eight}
use Rattle.record.specs.Bytes.{Field}
use Rattle.record.specs.Numbers.{field_split}
use Rattle.record.proofs.field.Goals as goal

-- two fours are an eight
eight : (b : List ℕ) (at low high : ℕ) → at + 8 ≤ length b → Field b at Four low → Field b (at + 4) Four high
    → Field b at Eight (low + high * 4294967296)
eight b at low high h l k =
    record {
      value = rw (field_split b at 4 4 (omega arith), ← l.value, ← k.value) (omega arith);
      small = omega (arith, l.small, k.small);
    }

pub returns-in-Eight : goal.returns-in-Eight
returns-in-Eight c =
    let h : c.args.at + 8 ≤ length c.args.bytes.now = rw c.in-Eight.is at c.requires in
    rw c.in-Eight.is (eight c.args.bytes.now c.args.at _ _ h c.four-low.ensures c.four-high.ensures)
