-- What every good journal has: kinds that are known, numbers below the next one, snapshots from low to last; and how the next number depends on floor.
-- Assumes nothing.
use Rattle.std.specs.Prelude.{◌≡◌, refl, true, false, not, List, [], ◌∷◌, ℕ, ◌≤◌, eqb}
use Rattle.std.proofs.lemmas.Bool.{false≢true}
use Rattle.std.proofs.Common.{arith, eqb-true, ne_eqb}
use Rattle.rules.specs.Limits.{numbers_end}
use Rattle.rules.specs.declared.Record.{Record}
use Rattle.rules.specs.Kinds.{is_begin, is_assign, is_update, is_commit, is_end}
use Rattle.rules.specs.Transactions.{any, of, runs, snapshot}
use Rattle.rules.specs.Times.{last, above}
use Rattle.rules.specs.Checkpoints.{is_known, known}
use Rattle.rules.specs.Recovery.{formed}
use Rattle.rules.specs.Bools.{split, and_left, and_right}
use Rattle.rules.specs.Running.{not_ended, below}
use Rattle.history.proofs.Good.{Step, Good, none, more}

-- a commit begins nothing
pub commit_begins : (r : Record) → is_commit r ≡ true → is_begin r ≡ false
commit_begins r c = rw (eqb-true r.kind 4 c)

-- and writes nothing
pub commit_writes : (r : Record) → is_commit r ≡ true → is_update r ≡ false
commit_writes r c = rw (eqb-true r.kind 4 c)

-- an update begins nothing
pub update_begins : (r : Record) → is_update r ≡ true → is_begin r ≡ false
update_begins r u =
    split (is_assign r) (λ a. rw (eqb-true r.kind 2 a)) (λ a. rw (eqb-true r.kind 3 (rw a at u)))

-- a record of a known kind
formed_known : (r : Record) → formed r ≡ true → is_known r ≡ true
formed_known r f =
    let k = and_right (eqb r.zeros 0) _ f in
    split (is_begin r)
    (λ b. rw (eqb-true r.kind 1 b))
    (λ b.
    split (is_commit r)
    (λ c. rw (eqb-true r.kind 4 c))
    (λ c.
    split (is_assign r)
    (λ a. rw (eqb-true r.kind 2 a))
    (λ a.
    split (eqb r.kind 3)
    (λ d. rw (eqb-true r.kind 3 d))
    (λ d. rw (eqb-true r.kind 5 (and_left (eqb r.kind 5) _ (rw (b, c, a, d) at k)))))))

-- a good journal has known kinds only
pub good_known : {low : ℕ} {rs : List Record} → Good low rs → known rs ≡ rs
good_known none = refl
good_known (more {r = r} g s) = rw (formed_known r s.form, good_known g)

-- a higher floor gives no lower number
pub above_mono : (f g : ℕ) (rs : List Record) → f ≤ g → above f rs ≤ above g rs
above_mono f g [] l = l
above_mono f g (r ∷ rs) l = let i = above_mono f g rs l in split (is_begin r) (λ b. rw b (omega arith)) (λ b. rw b i)

-- one record more gives no lower number
pub above_more : (f : ℕ) (r : Record) (rs : List Record) → above f rs ≤ above f (r ∷ rs)
above_more f r rs = split (is_begin r) (λ b. rw b (omega arith)) (λ b. rw b (omega arith))

-- the next number is at least floor
pub above_least : (f : ℕ) (rs : List Record) → f ≤ above f rs
above_least f [] = omega arith
above_least f (r ∷ rs) = omega (arith, above_least f rs, above_more f r rs)

-- numbers in range keep it at most 4,294,967,295
pub above_top : (f : ℕ) {low : ℕ} {rs : List Record} → f ≤ numbers_end → Good low rs → above f rs ≤ numbers_end
above_top f l none = l
above_top f l (more {r = r} g s) =
    let i = above_top f l g in
    split (is_begin r) (λ b. rw b (omega (arith, (s.opens b).ranged))) (λ b. rw b i)

-- a number not yet begun has no records
pub fresh : {low : ℕ} {rs : List Record} → Good low rs → (n : ℕ) → above 1 rs ≤ n → of n rs ≡ []
fresh none n l = refl
fresh (more {r = r} {older = rs} g s) n l =
    let i = fresh g n (omega (arith, above_more 1 r rs)) in
    split (is_begin r)
    (λ b. let m = rw b at l in rw (ne_eqb r.transaction n (omega arith)) i)
    (λ b. let u = below 1 r.transaction rs (fresh g) (s.goes_on b) in rw (ne_eqb r.transaction n (omega (arith, above_more 1 r rs))) i)

-- the transaction of a step has not ended before
pub unended : {low : ℕ} {rs : List Record} → Good low rs → {r : Record} → Step low rs r → any is_end (of r.transaction rs) ≡ false
unended {rs = rs} g {r} s =
    split (is_begin r)
    (λ b. rw (fresh g r.transaction (s.opens b).fresh))
    (λ b. not_ended (of r.transaction rs) (s.goes_on b))

-- a running transaction has a begin
pub begun_of : (n : ℕ) (rs : List Record) → runs n rs ≡ true → any is_begin (of n rs) ≡ true
begun_of n rs u = and_left (any is_begin (of n rs)) (not (any is_end (of n rs))) u

-- one record more gives no lower last
pub last_more : (low : ℕ) (r : Record) (rs : List Record) → last low rs ≤ last low (r ∷ rs)
last_more low r rs = split (is_commit r) (λ c. rw c (omega arith)) (λ c. rw c (omega arith))

-- a step for a lower low, where last is the same
pub step_lower : {walked low : ℕ} {older : List Record} {r : Record} → walked ≤ low → last walked older ≡ last low older → Step low older r → Step walked older r
step_lower l e s =
    record {
      form = s.form;
      opens =
          λ b.
          let o = s.opens b in
          record { fresh = o.fresh; ranged = o.ranged; from = omega (arith, o.from); upto = omega (arith, o.upto, e); few = o.few };
      goes_on = s.goes_on;
      writes = s.writes;
      settles = λ c. record { later = omega (arith, (s.settles c).later, e); clear = (s.settles c).clear };
    }

-- snapshots are at least low, and at most last
pub snapshot_within : {low : ℕ} {rs : List Record} → Good low rs → (n : ℕ) → any is_begin (of n rs) ≡ true
    → (low ≤ snapshot n rs) × (snapshot n rs ≤ last low rs)
snapshot_within none n h = absurd (false≢true h)
snapshot_within {low} (more {r = r} {older = rs} g s) n h =
    let m = last_more low r rs in
    split (eqb r.transaction n)
    (λ x.
    split (is_begin r)
    (λ b.
    let o = s.opens b in
    let f : of n rs ≡ [] = rw (eqb-true r.transaction n x) at (fresh g r.transaction o.fresh) in
    rw (x, b, f) (o.from, omega (arith, o.upto)))
    (λ b. let i = snapshot_within g n (rw (x, b) at h) in rw (x, b) (i.0, omega (arith, i.1))))
    (λ x. let i = snapshot_within g n (rw x at h) in rw x (i.0, omega (arith, i.1)))
