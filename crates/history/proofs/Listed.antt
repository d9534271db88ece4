-- The history's list at a time has exactly the registers that were written by transactions committed at or before it, with their values. Assumes nothing.
use Rattle.std.specs.Prelude.{◌≡◌, refl, true, false, ◌||◌, List, [], ◌∷◌, ℕ, eqb, leb, Some, None}
use Rattle.std.proofs.Common.{◌∙◌, true≢false}
use Rattle.rules.specs.Value.{Value}
use Rattle.rules.specs.declared.Effect.{Effect}
use Rattle.rules.specs.declared.Effect.TheVariants.{Assign, Add}
use Rattle.rules.specs.Effects.{applied}
use Rattle.rules.specs.Lists.{among}
use Rattle.rules.specs.Bools.{split, or_none_left, or_none_right, and_false}
use Rattle.rules.proofs.Listing.{Lists, listed_lists}
use Rattle.history.specs.History.{Change, Commitment, making, value_in, changed_keys, committed_keys, list_in, changes, written_by, is_present}

making_present : (k : ℕ) (cs : List Change) (v : Value) → is_present (making k cs v) ≡ (changes k cs || is_present v)
making_present k [] v = refl
making_present k (c ∷ cs) v = split (eqb c.key k) (λ e. rw e (applied_present c.effect (making k cs v))) (λ e. rw (e, making_present k cs v))
  where
    applied_present : (e : Effect) (v : Value) → is_present (applied e v) ≡ true
    applied_present (Assign x) v = refl
    applied_present (Add x) v = refl

-- a register is present at t exactly if such a transaction wrote it
pub value_present : (cs : List Commitment) (t k : ℕ) → is_present (value_in cs t k) ≡ written_by cs t k
value_present [] t k = refl
value_present (c ∷ cs) t k =
    split (leb c.time t)
    (λ e. rw (e, making_present k c.changes (value_in cs t k), value_present cs t k))
    (λ e. rw (e, value_present cs t k))

among_changed : (k : ℕ) (cs : List Change) (ks : List ℕ) → among k (changed_keys cs ks) ≡ (changes k cs || among k ks)
among_changed k [] ks = refl
among_changed k (c ∷ cs) ks = split (eqb c.key k) (λ e. rw e) (λ e. rw (e, among_changed k cs ks))

-- a key that no committed transaction changed was not written
unwritten : (cs : List Commitment) (t k : ℕ) → among k (committed_keys cs) ≡ false → written_by cs t k ≡ false
unwritten [] t k h = refl
unwritten (c ∷ cs) t k h =
    let both : (changes k c.changes || among k (committed_keys cs)) ≡ false = rw (among_changed k c.changes (committed_keys cs)) at h in
    rw (
      or_none_left (changes k c.changes) (among k (committed_keys cs)) both,
      and_false (leb c.time t),
      unwritten cs t k (or_none_right (changes k c.changes) (among k (committed_keys cs)) both),
    )

absent : (v : Value) → is_present v ≡ false → v ≡ None
absent None e = refl
absent (Some v) e = absurd (true≢false e)

-- the history's list is the list of its values
pub history_lists : (cs : List Commitment) (t : ℕ) → Lists (value_in cs t) (list_in cs t)
history_lists cs t =
    listed_lists (value_in cs t) (committed_keys cs) (λ k m. absent (value_in cs t k) (value_present cs t k ∙ unwritten cs t k m))
