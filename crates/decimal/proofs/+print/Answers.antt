-- `decimal::print` meets its contract: one lemma a way out, `short_printed` and `long_printed`. Assumes nothing.
use mathlib.Core.Path.{◌≡◌, ◌∙◌}
use mathlib.Core.List.{List, ◌∷◌, ◌++◌, append_assoc}
use Prim.Native.Nat.{ℕ, suc, ◌+◌, ◌/◌, ◌%◌, ◌≤◌, ◌<◌}
use native.Mathlib.Omega.{arith}
use native.Mathlib.Numerals.{add-one}
use lib.ListN.{length, take, drop, set, get_or, length-append}
use lib.Seq.{set_split, set_at, drop-cons, length-take-le}
use Rattle.decimal.specs.Digits.{glyph, digits}
use Rattle.decimal.specs.DigitsLaws.{digits_short, digits_long}
use Rattle.decimal.specs.Laws.{length_short, length_long}
use Rattle.decimal.specs.Printed.{Printed}
use Rattle.decimal.proofs.+print.Goals as goal

module _ (out : List ℕ) (at n : ℕ) (room : at + length (digits n) ≤ length out) where
  short_printed : n < 10 → Printed out at n (at + 1) (set out at (glyph n))
  short_printed h =
      let l = length_short n h in
      record { next = rw l; bytes = rw (digits_short n h, add-one, set_split out at (glyph n) (omega arith)) }

  long_printed : 10 ≤ n → (next : ℕ) (out' : List ℕ) → Printed out at (n / 10) next out' → Printed out at n (next + 1) (set out' next (glyph (n % 10)))
  long_printed h next out' p =
      let d = digits (n / 10) in
      let l = length_long n h in
      let front : length (take at out ++ d) ≡ at + length d = rw (length-append, length-take-le at out (omega arith)) in
      let behind : at + (length d + 1) ≡ suc (at + length d) = omega arith in
      record {
        next = omega (arith, p.next);
        bytes =
            rw (p.bytes, p.next, l, digits_long n h, behind, drop-cons out (at + length d) 0 (omega arith), ← append_assoc (take at out) d (get_or out (at + length d) 0 ∷ drop (suc (at + length d)) out))
            (set_at (take at out ++ d) _ _ (glyph (n % 10)) (at + length d) front ∙ simp append_assoc);
      }

pub bounds-out-at : goal.bounds-out-at
bounds-out-at t c = omega (arith, length_short c.args.n (omega arith))

pub overflow_add-result : goal.overflow_add-result
overflow_add-result t c = omega (arith, length_short c.args.n (omega arith))

pub returns-then-n-lt-TEN : goal.returns-then-n-lt-TEN
returns-then-n-lt-TEN t c = short_printed c.args.out.now c.args.at c.args.n c.requires (omega arith)

pub print-next-requires : goal.print-next-requires
print-next-requires t c = omega (arith, length_long c.args.n (omega arith))

pub bounds-out-next : goal.bounds-out-next
bounds-out-next t c = omega (arith, length_long c.args.n (omega arith))

pub overflow_add-result-2 : goal.overflow_add-result-2
overflow_add-result-2 t c = omega (arith, length_long c.args.n (omega arith))

pub returns : goal.returns
returns t c = long_printed c.args.out.now c.args.at c.args.n c.requires (omega arith) c.print-next.result c.print-next.new.out c.print-next.ensures
