-- `compact::keep` meets its contract. The loop's invariant: of the records passed, those that stay stand at the front, and the records
-- that are not passed stand where they stood. Assumes nothing.
use mathlib.Core.Path.{◌≡◌, ap, sym, ◌∙◌}
use mathlib.Core.Bool.{Bool, true, false}
use mathlib.Core.List.{List, ◌∷◌, ◌++◌}
use Prim.Native.Nat.{ℕ, suc, ◌≤◌, ◌+◌, ◌*◌}
use native.Mathlib.Numerals.{add-one}
use lib.ListN.{length, take, drop}
use Rattle.rules.specs.declared.Record.{Record}
use Rattle.rules.specs.Kinds.{record_size}
use Rattle.rules.specs.Checkpoints.{raise}
use Rattle.record.specs.Bytes.{record_at, records_in, bytes_of, appended, laid}
use Rattle.record.specs.Laws.{length_appended}
use Rattle.record.specs.Laid.{drop_more, record_drop, take_appended, drop_appended}
use Rattle.compact.specs.Compact.{kept_in, sifted, Moved}
use native.Mathlib.Omega.{arith}
use Rattle.compact.proofs.keep.Goals as goal
use Rattle.compact.proofs.keep.Goals.{then-is_kept, else-is_kept}

module _ (p : Record → Bool) (t : ℕ) (b₀ b b' : List ℕ) (i m m' : ℕ) (y : Moved (sifted p t (records_in i b₀)) b₀ i m b) (s : length b ≡ length b₀)
    (l : i * record_size + record_size ≤ length b₀) (r : Record) (v : Bool) (e : r ≡ record_at b (i * record_size)) (d : v ≡ p r) where
  next : (i + 1) * record_size ≡ i * record_size + record_size
  next = omega arith

  -- the record is still what it was at entry
  same : r ≡ record_at b₀ (i * record_size)
  same = e ∙ record_drop b b₀ (i * record_size) y.back

  tested : (w : Bool) → v ≡ w → p (record_at b₀ (i * record_size)) ≡ w
  tested w q = ap p (sym same) ∙ sym d ∙ q

  rest : drop ((i + 1) * record_size) b ≡ drop ((i + 1) * record_size) b₀
  rest = ap (λ (x : ℕ). drop x b) next ∙ drop_more b b₀ (i * record_size) record_size y.back ∙ ap (λ (x : ℕ). drop x b₀) (sym next)

  stays : (r' : Record) → v ≡ true → r' ≡ raise t r → b' ≡ appended b m r' → m' ≡ m + 1 → Moved (sifted p t (records_in (i + 1) b₀)) b₀ (i + 1) m' b'
  stays r' q f g n =
      let h : m * record_size + record_size ≤ length b = omega (arith, y.few) in
      let z : sifted p t (records_in (i + 1) b₀) ≡ raise t (record_at b₀ (i * record_size)) ∷ sifted p t (records_in i b₀) = rw (add-one, tested true q) in
      let w : sifted p t (records_in (i + 1) b₀) ≡ r' ∷ sifted p t (records_in i b₀) =
      z ∙ ap (λ (x : Record). x ∷ sifted p t (records_in i b₀)) (sym (f ∙ ap (raise t) same))
      in
      record {
        few = omega (arith, y.few);
        count = n ∙ add-one m ∙ ap suc y.count ∙ sym (ap length w);
        front =
            ap (λ (x : ℕ). take (x * record_size) b') n
            ∙ ap (take ((m + 1) * record_size)) g
            ∙ take_appended b m r' h
            ∙ ap (λ (x : List ℕ). x ++ bytes_of r') y.front
            ∙ sym (ap laid w);
        back = ap (drop ((i + 1) * record_size)) g ∙ drop_appended b m r' h i y.few ∙ rest;
      }

  goes : v ≡ false → b' ≡ b → m' ≡ m → Moved (sifted p t (records_in (i + 1) b₀)) b₀ (i + 1) m' b'
  goes q g n =
      let w : sifted p t (records_in (i + 1) b₀) ≡ sifted p t (records_in i b₀) = rw (add-one, tested false q) in
      record {
        few = omega (arith, y.few);
        count = n ∙ y.count ∙ sym (ap length w);
        front = ap (λ (x : ℕ). take (x * record_size) b') n ∙ ap (take (m * record_size)) g ∙ y.front ∙ sym (ap laid w);
        back = ap (drop ((i + 1) * record_size)) g ∙ rest;
      }

pub loop-i-preserved : goal.loop-i-preserved
loop-i-preserved c =
    let l = c.loop-i in
    let a = c.args in
    let j = a.journal.now in
    let p = kept_in a.running.now a.lates.numbers.now in
    let y = l.invariant.1 in
    let h : l.i * record_size + record_size ≤ length j = omega (arith, c.requires) in (
      elim c.if-is_kept.branch [
        | then-is_kept w ↦ ap length (w.journal-is ∙ w.append.ensures)
            ∙ length_appended l.journal l.count _ (omega (arith, y.few, l.invariant.0)) ∙ l.invariant.0
        | else-is_kept w ↦ ap length w.journal-is ∙ l.invariant.0
      ],
      elim c.if-is_kept.branch [
        | then-is_kept w ↦ stays p a.t j l.journal _ l.i l.count _ y l.invariant.0 h c.read-r.result _ c.read-r.ensures c.is_kept.ensures
            _ w.if-is_kept.true w.raise.ensures (w.journal-is ∙ w.append.ensures) w.count-is
        | else-is_kept w ↦ goes p a.t j l.journal _ l.i l.count _ y l.invariant.0 h c.read-r.result _ c.read-r.ensures c.is_kept.ensures
            w.if-is_kept.false w.journal-is w.count-is
      ],
    )
