-- `Slots::first` meets its contract: what the loop's invariant says of the first slot, and of the next.
use Rattle.std.proofs.Common.{ℕ, true, ◌≡◌, ◌≤◌, refl, sym, ◌∙◌, arith, rules}
use Rattle.std.proofs.lemmas.Bool.{false≢true}
use Rattle.slot.specs.declared.Slots.{Slots}
use Rattle.slot.specs.Slots.{slot_at, is_occupied, first_slot}
use Rattle.slot.specs.Formed.{Rowed}
use Rattle.slot.proofs.Walk.{met_here, other, unoccupied, before_next}
use Rattle.slot.proofs.Slots.first.Goals as goal
use Rattle.slot.proofs.Slots.first.Goals.{else-is_occupied-via-then-is_occupied+else-test, else-is_occupied-via-else-is_occupied}

pub loop-i-init : goal.loop-i-init
unfolding first_slot
loop-i-init g c = (λ p f. refl, λ j l. absurd (omega (arith, l)))

pub returns-then-test-clause-lowest : goal.returns-then-test-clause-lowest
returns-then-test-clause-lowest g c p f =
    let l = c.loop-i in
    met_here p c.args.self l.i _ (l.invariant.0 p f) (omega arith) (sym c.is_occupied.ensures ∙ c.if-is_occupied.true)
    (rw (← c.at.ensures) (sym (f c.at.result _ c.test.ensures) ∙ c.if-test.true))

-- what the invariant says of the slots passed
abbrev in_order : Slots → ℕ → Type 0
in_order h j = is_occupied h j ≡ true → (slot_at h j).count ≤ 32 → Rowed (slot_at h j)

pub loop-i-preserved : goal.loop-i-preserved
loop-i-preserved g c =
    let l = c.loop-i in
    let a = c.args in
    elim c.else-is_occupied.branch [
      | else-is_occupied-via-then-is_occupied+else-test w ↦ (
        λ p f. other p a.self l.i _ (l.invariant.0 p f) (omega arith) (sym c.is_occupied.ensures ∙ w.if-is_occupied.true)
            (rw (← w.at.ensures) (sym (f w.at.result _ w.test.ensures) ∙ w.if-test.false)),
        before_next (in_order a.self) l.i l.invariant.1 (λ t.
            rw (← w.at.ensures) (λ n. record { keys = search rules; values = search rules; marks = search rules; count = n })),
      )
      | else-is_occupied-via-else-is_occupied w ↦ (
        λ p f. unoccupied p a.self l.i _ (l.invariant.0 p f) (omega arith) (sym c.is_occupied.ensures ∙ w.if-is_occupied.false),
        before_next (in_order a.self) l.i l.invariant.1 (λ t. absurd (false≢true (sym w.if-is_occupied.false ∙ c.is_occupied.ensures ∙ t))),
      )
    ]
