-- What tells a refusal. Assumes nothing.
use Rattle.std.specs.Prelude.{◌≡◌, refl, List, ◌++◌, ℕ, eqb, length, drop, get_or, Option, Some, None}
use Rattle.rules.specs.declared.Record.{Record}
use Rattle.rules.specs.Bools.{split}
use Rattle.rules.specs.Values.{Row}
use Rattle.rules.specs.Recovery.{walk}
use Rattle.journal_store.specs.declared.Head.{Head}
use Rattle.journal_store.specs.CallContracts.{is_recoverable, surviving}
use Rattle.report.specs.Text.{base_of, walked_text, report_text}
use Rattle.report.specs.Written.{Reported}
use Rattle.report.specs.Refused.{is_bad, is_refused}

walked_letter : (w : Option ℕ) (low : ℕ) (base : List Row) (rs : List Record) (rest : List ℕ)
    → eqb (get_or (walked_text w low base rs ++ rest) 0 0) 114 ≡ is_bad w
walked_letter None low base rs rest = refl
walked_letter (Some place) low base rs rest = refl

module _ (h : Head) (keys values j : List ℕ) (survived : ℕ) where
  first_letter : (rest : List ℕ) → eqb (get_or (report_text h keys values j survived ++ rest) 0 0) 114 ≡ is_refused h keys values j survived
  first_letter rest =
      let rs = surviving survived j in
      split (is_recoverable h keys (length values) (length j) survived)
      (λ e. rw e (walked_letter (walk h.low rs) h.low (base_of h keys values) rs rest))
      (λ e. rw e)

  -- the first byte of the text tells: "refused" has an r there, "time" a t
  pub letter_tells : {out j' out' : List ℕ} {r : ℕ} → Reported h keys values j survived out r j' out'
      → eqb (get_or out' 0 0) 114 ≡ is_refused h keys values j survived
  letter_tells {out} p = rw p.text (first_letter (drop (length (report_text h keys values j survived)) out))
