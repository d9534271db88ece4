-- `versions::pass` meets its contract: the next 16 cells join those that were passed.
use Rattle.std.proofs.Common.{◌≡◌, Bool, false, ℕ, List, ◌+◌, ◌-◌, ◌≤◌, take, drop, refl, arith}
use Rattle.std.specs.List.{list_any}
use Rattle.std.proofs.Math.Seq.{take-add}
use Rattle.std.proofs.lemmas.List.{drop-drop}
use Rattle.std.proofs.lemmas.List.Folds.{list_any-append}
use Rattle.versions.proofs.pass.Goals as goal

-- cells that are passed, and those behind them
further : {A : Type 0} (p : A → Bool) (cells : List A) (m i e : ℕ) → m ≤ i → i ≤ e → list_any p (take (i - m) (drop m cells)) ≡ false
    → list_any p (take (e - i) (drop i cells)) ≡ false → list_any p (take (e - m) (drop m cells)) ≡ false
further p cells m i e a b h k =
    let y : e - m ≡ i - m + (e - i) = omega arith in
    let z : m + (i - m) ≡ i = omega arith in
    rw (
      y,
      take-add (i - m) (e - i) (drop m cells),
      list_any-append p (take (i - m) (drop m cells)) (take (e - i) (drop (i - m) (drop m cells))),
      h,
      drop-drop (i - m) m cells,
      z,
    ) k

pub loop-i-init : goal.loop-i-init
loop-i-init g c = (omega arith, c.requires.1, λ p f. let z : c.args.from - c.args.from ≡ 0 = omega arith in rw z refl)

pub loop-i-preserved : goal.loop-i-preserved
loop-i-preserved g c =
    let l = c.loop-i in
    let a = c.args in
    (omega (arith, l.invariant.0), omega (arith, l.invariant.1), λ p f. further p a.cells.now a.from l.i (l.i + 16) l.invariant.0 (omega arith) (l.invariant.2 p f) (let e = c.some.ensures p f in cc))
