-- What lent cells of a store that calls reach mean, and what its answers are then. Assumes nothing.
use Rattle.std.specs.Prelude.{◌≡◌, refl, Bool, true, cond, List, ◌++◌, ℕ, eqb, length, drop, Some, None}
use Rattle.std.proofs.Common.{ap, sym, ◌∙◌, eqb-true}
use Rattle.rules.specs.Value.{Value}
use Rattle.rules.specs.Bools.{split}
use Rattle.rules.specs.Values.{Row}
use Rattle.rules.specs.Lists.{row_keys}
use Rattle.rules.specs.Columns.{row_values}
use Rattle.answer.specs.Reply.{Reply, told, after}
use Rattle.journal_store.specs.Shape.{Shaped, is_shaped, meaning}
use Rattle.journal_store.specs.ShapeLaws.{shape_passes}
use Rattle.history.specs.History.{Deed}
use Rattle.history.proofs.Tied.{Tied}
use Rattle.history.specs.Cells.{Cells, meaning_of, end, Lent, Shows, Reached}
use Rattle.history.proofs.Meant.{course_of, held_meaning, meant}

-- a reply whose number is the same, and whose value is the same where the call is accepted
pub told_same : (n m : ℕ) (v w : Value) → n ≡ m → (n ≡ 0 → v ≡ w) → told n v ≡ told m w
told_same n m v w e f =
    ap (λ (i : ℕ). told i v) e
    ∙ split (eqb m 0)
    (λ z. ap (told m) (f (e ∙ eqb-true m 0 z)))
    (λ z. ap (λ (b : Bool). record { number = m; value = cond b v None }) z ∙ sym (ap (λ (b : Bool). record { number = m; value = cond b w None }) z))

-- cells after a call whose number is the same, and which are the same where it is accepted
pub after_same : {A : Type 0} (n m : ℕ) (new new' old : A) → n ≡ m → (n ≡ 0 → new ≡ new') → after n new old ≡ after m new' old
after_same n m new new' old e f =
    ap (λ (i : ℕ). after i new old) e
    ∙ split (eqb m 0)
    (λ z. ap (λ (a : _). after m a old) (f (e ∙ eqb-true m 0 z)))
    (λ z. ap (λ (b : Bool). cond b new old) z ∙ sym (ap (λ (b : Bool). cond b new' old) z))

-- a list that shows some rows shows the same rows by another name
pub shows_same : (rows rows' : List Row) (n m : ℕ) (listed contents : List ℕ) (a : Reply) (listed' contents' : List ℕ) → n ≡ m → (n ≡ 0 → rows ≡ rows')
    → Shows rows n listed contents a listed' contents' → Shows rows' m listed contents a listed' contents'
shows_same rows rows' n m listed contents a listed' contents' e f s =
    record {
      reply = s.reply ∙ told_same n m (Some (length rows)) (Some (length rows')) e (λ z. ap (λ (l : List Row). Some (length l)) (f z));
      keys_column =
          s.keys_column
          ∙ after_same n m (row_keys rows ++ drop (length rows) listed) (row_keys rows' ++ drop (length rows') listed) listed e
          (λ z. ap (λ (l : List Row). row_keys l ++ drop (length l) listed) (f z));
      values_column =
          s.values_column
          ∙ after_same n m (row_values rows ++ drop (length rows) contents) (row_values rows' ++ drop (length rows') contents) contents e
          (λ z. ap (λ (l : List Row). row_values l ++ drop (length l) contents) (f z));
    }

-- two lists that show the same rows under the same number in the same columns answer the same and leave the same
pub shows_alike : (rows : List Row) (n : ℕ) (listed contents : List ℕ) (a : Reply) (listed' contents' : List ℕ) (b : Reply) (listed'' contents'' : List ℕ)
    → Shows rows n listed contents a listed' contents' → Shows rows n listed contents b listed'' contents''
    → (a ≡ b) × (listed' ≡ listed'') × (contents' ≡ contents'')
shows_alike rows n listed contents a listed' contents' b listed'' contents'' p q =
    (p.reply ∙ sym q.reply, p.keys_column ∙ sym q.keys_column, p.values_column ∙ sym q.values_column)

module _ {room : ℕ → Type 0} {ds : List Deed} {since : ℕ} {x : Cells} (r : Reached room ds since x) where
  -- the invariant of sequences holds of what the cells mean
  pub tie : Tied (course_of ds since x)
  tie = (meant r).tie

  module _ (keys values journal : List ℕ) (l : Lent x (end x) keys values journal) where
    pub lent_shaped : Shaped x.head (length keys) (length values) (length journal)
    lent_shaped =
        let s = (meant r).shaped in
        record { rows_limit = s.rows_limit; rows = l.rows; paired = l.paired; used_limit = s.used_limit; used = l.used; floored = s.floored }

    pub lent_passes : is_shaped x.head (length keys) (length values) (length journal) ≡ true
    lent_passes = shape_passes x.head (length keys) (length values) (length journal) lent_shaped

    pub lent_meaning : meaning x.head keys values journal ≡ meaning_of x
    lent_meaning = held_meaning x keys values journal (meant r).shaped lent_shaped l.held

  -- the store's own cells, lent as they are
  pub own : Lent x (end x) x.keys x.values x.journal
  own =
      let s = (meant r).shaped in
      record { rows = s.rows; paired = s.paired; used = s.used; held = record { keys_held = refl; values_held = refl; journal_held = refl } }
