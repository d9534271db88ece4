-- What the walk finds. Assumes nothing.
use Rattle.std.specs.Prelude.{◌≡◌, refl, true, false, cond, List, [], ◌∷◌, ℕ, zero, suc, ◌≤◌, leb, length, Option, Some, None}
use Rattle.std.proofs.Common.{arith, leb-true, leb-false}
use Rattle.rules.specs.declared.Record.{Record}
use Rattle.rules.specs.Bools.{split, and_left, and_right}
use Rattle.rules.specs.Recovery.{judge, accepts, first_bad, walk}
use Rattle.record.specs.Bytes.{records_in}

-- an accepted record leaves what the walk found
pub walk_more : (low : ℕ) (r : Record) (older : List Record) → judge low older r ≡ true → walk low older ≡ None → walk low (r ∷ older) ≡ None
walk_more low r older j w = rw (w, j)

-- the first that is not is found
pub walk_bad : (low : ℕ) (r : Record) (older : List Record) → judge low older r ≡ false → walk low older ≡ None → walk low (r ∷ older) ≡ Some (length older)
walk_bad low r older j w = rw (w, j)

-- and stays so, whatever stands behind it
pub walk_stays : (low i n j : ℕ) (b : List ℕ) → i ≤ n → walk low (records_in i b) ≡ Some j → walk low (records_in n b) ≡ Some j
walk_stays low i zero j b l h = let e : i ≡ 0 = omega arith in rw e at h
walk_stays low i (suc n) j b l h =
    split (leb i n)
    (λ k. rw (walk_stays low i n j b (leb-true i n k) h))
    (λ k. let e : i ≡ suc n = omega (arith, leb-false i n k) in rw e at h)

-- a walk that finds nothing here has found nothing before
found_none : (v w : Option ℕ) → first_bad v w ≡ None → (v ≡ None) × (w ≡ None)
found_none None w h = (refl, h)
found_none (Some i) w h = let z : ◌≡◌ {A = ℕ} 0 1 = cc in absurd (omega arith)

-- a walk that finds nothing has accepted every record
pub walk_whole : (low : ℕ) (rs : List Record) → walk low rs ≡ None → accepts low rs ≡ true
walk_whole low [] h = refl
walk_whole low (r ∷ older) h =
    let p = found_none (walk low older) (cond (judge low older r) None (Some (length older))) h in
    split (judge low older r)
    (λ j. rw j (walk_whole low older p.0))
    (λ j. let e : Some (length older) ≡ None = rw j at p.1 in let z : ◌≡◌ {A = ℕ} 0 1 = cc in absurd (omega arith))

-- and the other way round
pub whole_walk : (low : ℕ) (rs : List Record) → accepts low rs ≡ true → walk low rs ≡ None
whole_walk low [] h = refl
whole_walk low (r ∷ older) h =
    walk_more low r older (and_left (judge low older r) (accepts low older) h) (whole_walk low older (and_right (judge low older r) (accepts low older) h))
