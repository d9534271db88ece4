-- Laws of what a call moved. Assumes nothing.
use Rattle.std.specs.Prelude.{◌≡◌, refl, ℕ, zero, suc, ◌+◌, ◌^◌, ◌≤◌, ◌<◌, ℤ, pos, negsuc, Ok, Err}
use Rattle.std.proofs.Common.{sym, ap, arith, to_z, of_z, Continue, Break}
use Rattle.std.specs.Int.Signed.{mag}
use Rattle.std.specs.Int.{w64}
use Rattle.std.proofs.lemmas.Int.{to_z-of_z}
use Rattle.rules.specs.Bools.{split}
use Rattle.streams.specs.declared.moves.Fault.TheVariants.{Interrupted, Failed}
use Rattle.streams.specs.Moves.{Moved, Input, Step, Answers, is_interrupted, moved_by, step_of, Within, count_of}

-- for a case that two constructors cannot meet
never : {P : Type 0} → ◌≡◌ {A = ℕ} 0 1 → P
never z = absurd (omega arith)

within : (answer error : ℤ) {most : ℕ} → Answers most answer → Within (moved_by answer error) most
within (pos k) error h n e = let z : k ≡ n = cc in omega arith
within (negsuc k) error h n e =
    split (is_interrupted error) (λ t. let f = rw t at e in never (cc))
    (λ t. let f = rw t at e in never (cc))

-- what C promises of its answer, which is told by its bits, keeps the bytes within the room
pub moved_within : (answer error : ℤ) {most : ℕ} {m : Moved} → mag answer < 2 ^ 63 → Answers most answer → m ≡ moved_by (to_z w64 (of_z w64 answer)) error
    → Within m most
moved_within answer error ok h e = rw (e, to_z-of_z w64 answer (record { sfits = ok })) (within answer error h)

-- going on keeps within the room, and comes nearer to the end: some bytes are done, or an interruption is used up
pub goes_on : (m : Moved) (done left : ℕ) {most done' left' : ℕ} → Within m most → step_of m done left ≡ Continue (done', left')
    → (done' ≤ done + most) × (done + left' < done' + left)
goes_on (Ok (suc n)) done left {done' = done'} {left' = left'} w e =
    let q : ◌≡◌ {A = ℕ × ℕ} (done + suc n, left) (done', left') = cc in
    let a : done + suc n ≡ done' = ap (λ (p : ℕ × ℕ). p.0) q in
    let b : left ≡ left' = ap (λ (p : ℕ × ℕ). p.1) q in
    (omega (arith, w (suc n) refl), omega arith)
goes_on (Ok zero) done left w e = never (cc)
goes_on (Err Interrupted) done zero w e = never (cc)
goes_on (Err Interrupted) done (suc left) {done' = done'} {left' = left'} w e =
    let q : ◌≡◌ {A = ℕ × ℕ} (done, left) (done', left') = cc in
    let a : done ≡ done' = ap (λ (p : ℕ × ℕ). p.0) q in
    let b : left ≡ left' = ap (λ (p : ℕ × ℕ). p.1) q in
    (omega arith, omega arith)
goes_on (Err Failed) done left w e = never (cc)

-- an input ends with the bytes that are done
pub stops : (m : Moved) (done left : ℕ) {i : Input} {n : ℕ} → step_of m done left ≡ Break i → i ≡ Ok n → n ≡ done
stops (Ok (suc k)) done left e f = never (cc)
stops (Ok zero) done left e f = cc
stops (Err Interrupted) done zero e f = never (cc)
stops (Err Interrupted) done (suc left) e f = never (cc)
stops (Err Failed) done left e f = never (cc)

-- going on adds the bytes that were moved to those that are done
pub goes_on_by : (m : Moved) (done left : ℕ) {s : Step} {done' left' : ℕ} → s ≡ step_of m done left → s ≡ Continue (done', left') → done' ≡ done + count_of m
goes_on_by (Ok (suc n)) done left {done' = done'} {left' = left'} e f =
    let q : ◌≡◌ {A = ℕ × ℕ} (done + suc n, left) (done', left') = cc in
    ap (λ (p : ℕ × ℕ). p.0) (sym q)
goes_on_by (Ok zero) done left e f = never (cc)
goes_on_by (Err Interrupted) done zero e f = never (cc)
goes_on_by (Err Interrupted) done (suc left) {done' = done'} {left' = left'} e f =
    let q : ◌≡◌ {A = ℕ × ℕ} (done, left) (done', left') = cc in
    let a : done ≡ done' = ap (λ (p : ℕ × ℕ). p.0) q in
    omega arith
goes_on_by (Err Failed) done left e f = never (cc)

-- the bytes that were moved are within the room
pub count_within : (m : Moved) {most : ℕ} → Within m most → count_of m ≤ most
count_within (Ok n) w = w n refl
count_within (Err e) w = omega arith
