-- What the number 0 says: every test of a call let it pass, and it has the room that it needs. Assumes nothing.
use Rattle.std.specs.Prelude.{◌≡◌, ℕ, ◌≤◌, Bool, true, false, cond, ◌==◌, nat_le, refl}
use Rattle.std.proofs.Common.{arith, eqb-true, leb-true}
use Rattle.std.proofs.lemmas.Bool.{eqb-false}
use Rattle.rules.specs.Bools.{split}
use Rattle.rules.specs.Calls.{with_room}

-- a test that refuses did not
pub passed : (b : Bool) (n others : ℕ) → 1 ≤ n → cond b n others ≡ 0 → (b ≡ false) × (others ≡ 0)
passed true n others l e = absurd (omega arith)
passed false n others l e = (refl, e)

-- no room (12) is tested last: what is accepted is not refused, and fits
pub fitting : (refused wanted room : ℕ) → with_room refused wanted room ≡ 0 → (refused ≡ 0) × (wanted ≤ room)
fitting refused wanted room h =
    split (refused == 0)
    (λ e. (eqb-true refused 0 e, split (nat_le wanted room) (λ f. leb-true wanted room f) (λ f. let z : ◌≡◌ {A = ℕ} 12 0 = rw (e, f) at h in absurd (omega (arith, z)))))
    (λ e. absurd (eqb-false refused 0 e (rw e at h)))
