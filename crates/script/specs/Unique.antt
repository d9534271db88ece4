-- No second answer satisfies the contract of a public function of `script`. Assumes nothing.
use Rattle.std.specs.Prelude.{◌≡◌, refl, ℕ, min, Bool, List}
use Rattle.std.proofs.Common.{sym, ◌∙◌}
use Rattle.rules.specs.Bools.{not_both}
use Rattle.answer.specs.declared.shown.Answer.{Answer}
use Rattle.script.specs.declared.line.Call.{Call}
use Rattle.script.specs.declared.line.Word.{Word}
use Rattle.script.specs.declared.run.Run.{Run}
use Rattle.script.specs.Line.{word_of}
use Rattle.script.specs.Run.{fresh, goes, read, judged_by}
use Rattle.script.specs.Follow.{Follows, ends, passes, asks}
use Rattle.script.specs.Rows.{most_lent, told}

-- a run at first, of whatever spells a word, whether a line is left, and after a line and its answer
pub run_unique : (w : Word) {r r' : Run} → r ≡ fresh w → r' ≡ fresh w → r ≡ r'
run_unique w p q = p ∙ sym q

pub goes_unique : (script : List ℕ) (run : Run) {r r' : Bool} → r ≡ goes script run → r' ≡ goes script run → r ≡ r'
goes_unique script run p q = p ∙ sym q

pub read_unique : (script : List ℕ) (run : Run) {r r' : Run} → r ≡ read script run → r' ≡ read script run → r ≡ r'
read_unique script run p q = p ∙ sym q

pub judged_unique : (run : Run) (answer : Answer) (sum : ℕ) {r r' : Run} → r ≡ judged_by run answer sum → r' ≡ judged_by run answer sum → r ≡ r'
judged_unique run answer sum p q = p ∙ sym q

-- a script followed to its end, where a call and a sum have one answer each on a store
module _ {S : Type 0} {turns : S → Call → S → Answer → Type 0} {sums : S → ℕ → Type 0} (script : List ℕ)
    (one_turn : (s : S) (c : Call) (s₁ s₂ : S) (a₁ a₂ : Answer) → turns s c s₁ a₁ → turns s c s₂ a₂ → (s₁ ≡ s₂) × (a₁ ≡ a₂))
    (one_sum : (s : S) (n₁ n₂ : ℕ) → sums s n₁ → sums s n₂ → n₁ ≡ n₂) where
  pub follow_unique : {r r₁ r₂ : Run} {s s₁ s₂ : S} → Follows turns sums script r s r₁ s₁ → Follows turns sums script r s r₂ s₂ → (r₁ ≡ r₂) × (s₁ ≡ s₂)
  follow_unique (ends g) (ends h) = (refl, refl)
  follow_unique (ends g) (passes h _ _) = not_both _ h g
  follow_unique (ends g) (asks h _ _ _ _) = not_both _ h g
  follow_unique (passes g _ _) (ends h) = not_both _ g h
  follow_unique (passes _ _ x) (passes _ _ y) = follow_unique x y
  follow_unique (passes _ p _) (asks _ q _ _ _) = not_both _ q p
  follow_unique (asks g _ _ _ _) (ends h) = not_both _ g h
  follow_unique (asks _ p _ _ _) (passes _ q _) = not_both _ p q
  follow_unique (asks _ _ t n x) (asks _ _ u m y) =
      let e = one_turn _ _ _ _ _ _ u t in
      let k = one_sum _ _ _ (rw e.0 at m) n in
      follow_unique x (rw (e.0, e.1, k) at y)

-- rows of a list
pub lent_unique : (count : ℕ) {r r' : ℕ} → r ≡ min count most_lent → r' ≡ min count most_lent → r ≡ r'
lent_unique count p q = p ∙ sym q

pub told_unique : (answer : Answer) (keys values : List ℕ) (row : ℕ) {r r' : Answer} → r ≡ told answer keys values row
    → r' ≡ told answer keys values row → r ≡ r'
told_unique answer keys values row p q = p ∙ sym q

-- the word that something spells, and that of a number
pub spells_unique : {A : Type 0} (word : A → Word) (x : A) {r r' : Word} → r ≡ word x → r' ≡ word x → r ≡ r'
spells_unique word x p q = p ∙ sym q

pub word_unique : (letters : ℕ) {r r' : Word} → r ≡ word_of letters → r' ≡ word_of letters → r ≡ r'
word_unique letters p q = p ∙ sym q
