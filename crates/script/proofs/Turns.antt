-- A turn of each loop of this crate: what is left completes to the answer, before it and after it. Assumes nothing.
use Rattle.std.proofs.Common.{◌≡◌, ℕ, suc, ◌+◌, ◌-◌, ◌<◌, ◌≤◌, List, length, get_or, arith, eq-eqb, ne_eqb}
use Rattle.script.specs.declared.line.Line.{Line}
use Rattle.script.specs.declared.line.Reading.{Reading}
use Rattle.script.specs.Line.{closed, taken, line_of, read_on}

-- a byte is read, or the line ends at it, or with the script
module _ (script : List ℕ) (start x : ℕ) (r : Reading) (i : ℕ) (l : Line) (h : read_on script start x r i (length script - i) ≡ l) where
  pub byte_read : i < length script → (get_or script i 0 ≡ 10 → ⊥) → (next : Reading) → next ≡ taken r (get_or script i 0) x
      → read_on script start x next (i + 1) (length script - (i + 1)) ≡ l
  byte_read b ne next e =
      let w : length script - i ≡ suc (length script - (i + 1)) = omega arith in
      rw e (rw (ne_eqb _ _ ne) at (rw w at h))

  pub line_ends : i < length script → get_or script i 0 ≡ 10 → line_of (closed r) start i ≡ l
  line_ends b e =
      let w : length script - i ≡ suc (length script - (i + 1)) = omega arith in
      rw (eq-eqb _ _ e) at (rw w at h)

  pub script_ends : length script ≤ i → line_of (closed r) start i ≡ l
  script_ends b =
      let z : length script - i ≡ 0 = omega arith in
      rw z at h
