-- What the first byte of the text tells of the ending. Assumes nothing.
use Rattle.std.specs.Prelude.{◌≡◌, false, List, ℕ, ◌≤◌, ◌<◌, get_or}
use Rattle.std.proofs.Common.{sym, ◌∙◌, eq-eqb, ne_eqb, lt-ltb, le-ltb}
use Rattle.rules.specs.Kinds.{record_size}
use Rattle.journal_store.specs.declared.Head.{Head}
use Rattle.journal_store.specs.Shape.{empty_head}
use Rattle.report.specs.Written.{Reported}
use Rattle.report.specs.Refused.{is_refused}
use Rattle.report.specs.RefusedLaws.{letter_tells}
use Rattle.list.specs.declared.Ending.TheVariants.{Listed, Empty, Refused}
use Rattle.list.specs.Ending.{Output, ending_of, none}

-- the head of an empty store by another name
pub printed : {h : Head} {j out j' out' : List ℕ} {survived r : ℕ} → h ≡ empty_head → Reported h none none j survived out r j' out'
    → Output j survived out r j' out'
printed e p = rw e at p

module _ {j out j' out' : List ℕ} {survived r : ℕ} (p : Output j survived out r j' out') where
  pub told_refused : get_or out' 0 0 ≡ 114 → Refused ≡ ending_of j survived
  told_refused e = rw (sym (letter_tells empty_head none none j survived p) ∙ eq-eqb (get_or out' 0 0) 114 e)

  module _ (n : get_or out' 0 0 ≡ 114 → ⊥) where
    accepted : is_refused empty_head none none j survived ≡ false
    accepted = sym (letter_tells empty_head none none j survived p) ∙ ne_eqb (get_or out' 0 0) 114 n

    pub told_empty : survived < record_size → Empty ≡ ending_of j survived
    told_empty h = rw (accepted, lt-ltb survived record_size h)

    pub told_listed : record_size ≤ survived → Listed ≡ ending_of j survived
    told_listed h = rw (accepted, le-ltb survived record_size h)
