-- Rule 3.1: what an effect makes of a value, and what the records of one transaction make of it. Assumes nothing.
use Rattle.std.specs.Prelude.{ℕ, ◌+◌, ◌%◌, ◌^◌, Bool, true, false, cond, ◌&&◌, List, [], ◌∷◌, ◌==◌, Some, None}
use Rattle.rules.specs.declared.Record.{Record}
use Rattle.rules.specs.Value.{Value}
use Rattle.rules.specs.declared.Effect.{Effect}
use Rattle.rules.specs.declared.Effect.TheVariants.{Assign, Add}
use Rattle.rules.specs.Kinds.{is_assign, is_update}

-- absent counting as 0
abbrev pub or_zero : Value → ℕ
or_zero None = 0
or_zero (Some v) = v

-- a value, or another where it is absent
abbrev pub or_else : Value → Value → Value
or_else None w = w
or_else (Some v) w = Some v

-- assign v gives v; add d gives the old value plus d modulo 4,294,967,296
abbrev pub applied : Effect → Value → Value
applied (Assign v) old = Some v
applied (Add d) old = Some ((or_zero old + d) % 2 ^ 32)

-- two effects, the newer after the older, as one: an assign puts the older aside, an add goes onto what the older assigns or adds
abbrev pub joined : Effect → Effect → Effect
joined older (Assign v) = Assign v
joined (Assign v) (Add d) = Assign ((v + d) % 2 ^ 32)
joined (Add t) (Add d) = Add ((t + d) % 2 ^ 32)

-- an effect that adds
abbrev pub is_add : Effect → Bool
is_add (Assign v) = false
is_add (Add d) = true

-- an effect in cells: its mark, 1 if it adds and else 0, and its amount
abbrev pub mark_of : Effect → ℕ
mark_of (Assign v) = 0
mark_of (Add d) = 1

abbrev pub amount_of : Effect → ℕ
amount_of (Assign v) = v
amount_of (Add d) = d

-- the effect that such cells hold: any mark but 0 adds
abbrev pub effect_by : ℕ → ℕ → Effect
effect_by mark amount = cond (mark == 0) (Assign amount) (Add amount)

-- the effect of an update record: kind 2 assigns its value, kind 3 adds it
abbrev pub effect_of : Record → Effect
effect_of r = cond (is_assign r) (Assign r.value) (Add r.value)

-- a record of kind 2 or 3 that has the key
abbrev pub writes : ℕ → Record → Bool
writes k r = is_update r && r.key == k

-- a record of kind 2 that has the key
abbrev pub assigns : ℕ → Record → Bool
assigns k r = is_assign r && r.key == k

-- what a record makes of the value of a key
abbrev pub effect : ℕ → Record → Value → Value
effect k r old = cond (writes k r) (applied (effect_of r) old) old

-- what records, the newest first, make of the value of a key, in their order
abbrev pub effects : ℕ → List Record → Value → Value
effects k [] old = old
effects k (r ∷ older) old = effect k r (effects k older old)
