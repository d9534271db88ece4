-- Laws of ends: from a place on, or before it; a number from the top on has no record among some. Assumes nothing.
use Rattle.std.specs.Prelude.{◌≡◌, refl, Bool, true, false, ◌||◌, not, ◌&&◌, List, [], ◌∷◌, ℕ, zero, suc, ◌+◌, ◌-◌, ◌*◌, ◌≤◌, eqb, ltb}
use Rattle.std.proofs.Common.{sym, ap, ◌∙◌, add-one, arith, ne_eqb, true≢false}
use Rattle.rules.specs.declared.Record.{Record}
use Rattle.rules.specs.Bools.{split, or_left, and_false}
use Rattle.rules.specs.Kinds.{record_size, is_begin, is_end}
use Rattle.rules.specs.Transactions.{any, of, opens, snapshot}
use Rattle.rules.specs.Checkpoints.{held_by}
use Rattle.record.specs.Bytes.{record_at, records_in}
use Rattle.journal.specs.Ends.{ended_from, ends, top}

-- a number that is not below has no record
pub none_of : (n : ℕ) (rs : List Record) → top rs ≤ n → of n rs ≡ []
none_of n [] l = refl
none_of n (r ∷ rs) l = rw (ne_eqb r.transaction n (omega arith)) (none_of n rs (omega arith))

or_swap : (a b c : Bool) → (b || (a || c)) ≡ ((a || b) || c)
or_swap a b c = split a (λ e. rw e (split b (λ f. rw f) (λ f. rw f))) (λ e. rw e)

module _ (n : ℕ) (b : List ℕ) where
  -- one record more
  ended_more : (r : Record) (rs : List Record) → any is_end (of n (r ∷ rs)) ≡ (ends n r || any is_end (of n rs))
  ended_more r rs = split (eqb r.transaction n) (λ e. rw e) (λ e. rw e)

  -- a transaction has ended where an end stands from a place on, or before it
  ended_all : (count i used : ℕ) → i + count ≡ used
      → any is_end (of n (records_in used b)) ≡ (ended_from n b i count || any is_end (of n (records_in i b)))
  ended_all zero i used e = let m : used ≡ i = omega arith in rw m
  ended_all (suc count) i used e =
      let r = record_at b (i * record_size) in
      ended_all count (i + 1) used (omega arith)
      ∙ ap (λ (x : Bool). ended_from n b (i + 1) count || x)
      (ap (λ (k : ℕ). any is_end (of n (records_in k b))) (add-one i) ∙ ended_more r (records_in i b))
      ∙ or_swap (ends n r) (ended_from n b (i + 1) count) (any is_end (of n (records_in i b)))

  module _ (i used : ℕ) (l : i ≤ used) (behind : Bool) (d : behind ≡ ended_from n b i (used - i)) where
    pub ended_behind : behind ≡ true → any is_end (of n (records_in used b)) ≡ true
    ended_behind e =
        ended_all (used - i) i used (omega arith) ∙ or_left (ended_from n b i (used - i)) (any is_end (of n (records_in i b))) (sym d ∙ e)

    pub ended_before : behind ≡ false → any is_end (of n (records_in used b)) ≡ any is_end (of n (records_in i b))
    ended_before e =
        ended_all (used - i) i used (omega arith) ∙ ap (λ (x : Bool). x || any is_end (of n (records_in i b))) (sym d ∙ e)

apart : (begin behind begun ended : Bool) → ((begin && not behind) && (not begun && not ended)) ≡ (begin && (not begun && not (behind || ended)))
apart true true begun ended = sym (and_false (not begun))
apart true false begun ended = refl
apart false behind begun ended = refl

gone : (begin behind begun ended below : Bool) → (begin && not behind) ≡ false → false ≡ (begin && ((begun && not (behind || ended)) && below))
gone true true begun ended below e = rw (and_false begun)
gone true false begun ended below e = absurd (true≢false e)
gone false behind begun ended below e = refl

-- a record that stands at a place, with what is asked of the records behind it and before it
module _ (b : List ℕ) (i used : ℕ) (l : i ≤ used) (r : Record) (unended : Bool)
    (d : unended ≡ (is_begin r && not (ended_from r.transaction b i (used - i)))) where
  -- it opens a transaction where it is a begin with no end behind it, and no begin or end stands before it
  pub opens_apart : (unknown : Bool)
      → unknown ≡ (not (any is_begin (of r.transaction (records_in i b))) && not (any is_end (of r.transaction (records_in i b))))
      → (unended && unknown) ≡ opens (records_in used b) r (records_in i b)
  opens_apart unknown e =
      rw (d, e, ended_all r.transaction b (used - i) i used (omega arith))
      (apart (is_begin r) (ended_from r.transaction b i (used - i)) (any is_begin (of r.transaction (records_in i b))) (any is_end (of r.transaction (records_in i b))))

  -- and it holds no time where it is no such begin
  pub held_none : (t : ℕ) → unended ≡ false → false ≡ held_by t (records_in used b) r
  held_none t e =
      rw (ended_all r.transaction b (used - i) i used (omega arith))
      (gone (is_begin r) (ended_from r.transaction b i (used - i)) (any is_begin (of r.transaction (records_in used b)))
      (any is_end (of r.transaction (records_in i b))) (ltb (snapshot r.transaction (records_in used b)) t) (sym d ∙ e))
