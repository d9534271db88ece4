-- No second answer satisfies the contract of a public function of this crate. Assumes nothing.
use Rattle.std.specs.Prelude.{◌≡◌, ℕ, Bool, ◌&&◌, nat_le}
use Rattle.std.proofs.Common.{sym, ◌∙◌}
use Rattle.rules.specs.declared.Record.{Record}
use Rattle.rules.specs.Value.{Value}
use Rattle.rules.specs.declared.Effect.{Effect}
use Rattle.rules.specs.Kinds.{is_commit, is_update}
use Rattle.rules.specs.Effects.{or_zero, applied, joined, is_add, mark_of, amount_of, effect_by, effect_of}

-- absent counting as 0, which `unwrap_or(0)` of the library gives (`zero_or`)
pub or_zero_unique : (v : Value) (a b : ℕ) → a ≡ or_zero v → b ≡ or_zero v → a ≡ b
or_zero_unique v a b p q = p ∙ sym q

pub apply_unique : (e : Effect) (old a b : Value) → a ≡ applied e old → b ≡ applied e old → a ≡ b
apply_unique e old a b p q = p ∙ sym q

pub join_unique : (older newer a b : Effect) → a ≡ joined older newer → b ≡ joined older newer → a ≡ b
join_unique older newer a b p q = p ∙ sym q

pub by_unique : (mark amount : ℕ) (a b : Effect) → a ≡ effect_by mark amount → b ≡ effect_by mark amount → a ≡ b
by_unique mark amount a b p q = p ∙ sym q

pub adds_unique : (e : Effect) (a b : Bool) → a ≡ is_add e → b ≡ is_add e → a ≡ b
adds_unique e a b p q = p ∙ sym q

pub mark_unique : (e : Effect) (a b : ℕ) → a ≡ mark_of e → b ≡ mark_of e → a ≡ b
mark_unique e a b p q = p ∙ sym q

pub amount_unique : (e : Effect) (a b : ℕ) → a ≡ amount_of e → b ≡ amount_of e → a ≡ b
amount_unique e a b p q = p ∙ sym q

pub effect_unique : (r : Record) (a b : Effect) → a ≡ effect_of r → b ≡ effect_of r → a ≡ b
effect_unique r a b p q = p ∙ sym q

pub is_update_unique : (r : Record) (a b : Bool) → a ≡ is_update r → b ≡ is_update r → a ≡ b
is_update_unique r a b p q = p ∙ sym q

pub settles_unique : (r : Record) (t : ℕ) (a b : Bool) → a ≡ (is_commit r && nat_le r.time t) → b ≡ (is_commit r && nat_le r.time t) → a ≡ b
settles_unique r t a b p q = p ∙ sym q
