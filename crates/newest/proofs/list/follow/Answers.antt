-- `newest::list::follow` meets its contract. The loop's invariant: the cells passed are followed, the others as they were.
use mathlib.Core.Path.{◌≡◌, ◌∙◌}
use mathlib.Core.List.{List, [], ◌∷◌, ◌++◌, append_assoc}
use Prim.Native.Nat.{ℕ, suc, ◌+◌, ◌<◌}
use native.Mathlib.Numerals.{add-one}
use native.Mathlib.Omega.{arith}
use lib.ListN.{length, take, drop, get_or, set}
use lib.Seq.{drop-cons, take-suc, set_at, get_or_at, length-take-le}
use Rattle.newest.specs.Newest.{followed}
use Rattle.newest.specs.Laws.{length_followed, followed_more}
use Rattle.newest.proofs.list.follow.Goals as goal

module _ (values places : List ℕ) (i : ℕ) (h : i < length places) where
  long : length (followed values (take i places)) ≡ i
  long = length_followed values (take i places) ∙ length-take-le i places (omega arith)

  -- the next cell is as it was
  next : (now' : List ℕ) → now' ≡ followed values (take i places) ++ drop i places → get_or now' i 0 ≡ get_or places i 0
  next now' e = rw (e, drop-cons places i 0 h) (get_or_at (followed values (take i places)) (get_or places i 0) (drop (suc i) places) 0 i long)

  turn : (now' : List ℕ) → now' ≡ followed values (take i places) ++ drop i places
      → set now' i (get_or values (get_or now' i 0) 0) ≡ followed values (take (i + 1) places) ++ drop (i + 1) places
  turn now' e =
      rw (next now' e)
      (rw (
        e,
        add-one,
        drop-cons places i 0 h,
        set_at (followed values (take i places)) (get_or places i 0) (drop (suc i) places) (get_or values (get_or places i 0) 0) i long,
        take-suc places i 0 h,
        followed_more values (take i places) (get_or places i 0 ∷ []),
        append_assoc,
      ))

pub loop-i-preserved : goal.loop-i-preserved
loop-i-preserved c =
    let l = c.loop-i in
    let a = c.args in
    turn a.values.now a.places.now l.i (omega arith) l.places l.invariant
