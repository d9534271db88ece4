-- Section 7: a journal alone is the case of the empty head, with low 0 and floor 1, and without a base. Assumes nothing.
use Rattle.std.specs.Prelude.{◌≡◌, refl, Bool, true, false, cond, ◌&&◌, List, [], ℕ, leb, length}
use Rattle.std.proofs.Common.{ap, arith, le-leb, eq-eqb}
use Rattle.rules.specs.Recovery.{walk}
use Rattle.journal_store.specs.Shape.{empty_head}
use Rattle.journal_store.specs.CallContracts.{journal_bytes, is_recoverable, surviving}
use Rattle.report.specs.Text.{refused_text, walked_text, report_text, walked_cells, report_cells}

-- what survived is within the journal's limit and within the buffer
abbrev pub is_lent : ℕ → ℕ → Bool
is_lent bytes survived = leb survived journal_bytes && leb survived bytes

-- the whole output, from the bytes of a journal of which so many survived; more than its limit is refusal 1
abbrev pub alone_text : List ℕ → ℕ → List ℕ
alone_text j survived =
    cond (is_lent (length j) survived) (walked_text (walk 0 (surviving survived j)) 0 [] (surviving survived j)) (refused_text 1 0)

-- and the journal afterwards
abbrev pub alone_cells : List ℕ → ℕ → List ℕ
alone_cells j survived = cond (is_lent (length j) survived) (walked_cells (walk 0 (surviving survived j)) j survived) j

and_true : (b : Bool) → (b && true) ≡ b
and_true true = refl
and_true false = refl

module _ (keys values j : List ℕ) (survived : ℕ) (paired : length keys ≡ length values) where
  lent : is_recoverable empty_head keys (length values) (length j) survived ≡ is_lent (length j) survived
  lent = rw (paired, eq-eqb (length values) (length values) refl, le-leb 0 (length values) (omega arith), and_true (leb survived (length j)))

  pub alone_text_lem : report_text empty_head keys values j survived ≡ alone_text j survived
  alone_text_lem =
      ap (λ (b : Bool). cond b (walked_text (walk 0 (surviving survived j)) 0 [] (surviving survived j)) (refused_text 1 0)) lent

  pub alone_cells_lem : report_cells empty_head keys values j survived ≡ alone_cells j survived
  alone_cells_lem = ap (λ (b : Bool). cond b (walked_cells (walk 0 (surviving survived j)) j survived) j) lent
