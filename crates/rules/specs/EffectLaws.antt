-- Laws of effects: two as one do what both do, one after the other, and cells hold the effect that was put there. Assumes nothing.
use Rattle.std.specs.Prelude.{◌≡◌, ℕ, ◌+◌, ◌%◌, ◌^◌, ◌&&◌, refl, None, Some, unwrap_or}
use Rattle.std.proofs.Common.{sym, ap, add_assoc}
use Rattle.std.proofs.Math.Nat.{mod-add-mod, add-mod-mod}
use Rattle.rules.specs.Value.{Value}
use Rattle.rules.specs.declared.Effect.{Effect}
use Rattle.rules.specs.declared.Effect.TheVariants.{Assign, Add}
use Rattle.rules.specs.Effects.{or_zero, applied, joined, is_add, mark_of, amount_of, effect_by}

-- a sum of sums, modulo 4,294,967,296
sum : (v x y : ℕ) → (v + (x + y) % 2 ^ 32) % 2 ^ 32 ≡ ((v + x) % 2 ^ 32 + y) % 2 ^ 32
sum v x y = rw (add-mod-mod v (x + y) (2 ^ 32), mod-add-mod (v + x) (2 ^ 32) y) (ap (λ (n : ℕ). n % 2 ^ 32) (sym (add_assoc v x y)))

-- absent counting as 0 is what `unwrap_or(0)` of the library gives
pub zero_or : (v : Value) → unwrap_or v 0 ≡ or_zero v
zero_or None = refl
zero_or (Some v) = refl

pub applied_joined : (a b : Effect) (v : Value) → applied (joined a b) v ≡ applied b (applied a v)
applied_joined (Assign x) (Assign y) v = refl
applied_joined (Add x) (Assign y) v = refl
applied_joined (Assign x) (Add y) v = refl
applied_joined (Add x) (Add y) v = ap Some (sum (or_zero v) x y)

pub cells_hold : (e : Effect) → effect_by (mark_of e) (amount_of e) ≡ e
cells_hold (Assign v) = refl
cells_hold (Add d) = refl

-- an effect always leaves a value
pub applied_shown : (e : Effect) (v : Value) → Some (or_zero (applied e v)) ≡ applied e v
applied_shown (Assign x) v = refl
applied_shown (Add x) v = refl

-- joined effects add exactly if both do
pub add_joined : (a b : Effect) → is_add (joined a b) ≡ (is_add a && is_add b)
add_joined (Assign x) (Assign y) = refl
add_joined (Assign x) (Add y) = refl
add_joined (Add x) (Assign y) = refl
add_joined (Add x) (Add y) = refl
