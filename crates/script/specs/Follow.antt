-- A script followed on a store, turn by turn: what the calls make of it, and where the run ends. Assumes nothing.
use Rattle.std.specs.Prelude.{◌≡◌, ℕ, true, false, List}
use Rattle.answer.specs.declared.shown.Answer.{Answer}
use Rattle.script.specs.declared.line.Call.{Call}
use Rattle.script.specs.declared.run.Run.{Run}
use Rattle.script.specs.Run.{goes, read, judged_by}

-- From a run and a store to a run and a store. Turns are what a call may make of a store and answer, and sums what may be the sum of one. The run ends
-- where no line is left. A line that is left is read. If it asks something, the store makes a turn of its call, and the answer is judged by a sum
-- of the store after it; if not, the store stays as it is.
pub data Follows {S : Type 0} (turns : S → Call → S → Answer → Type 0) (sums : S → ℕ → Type 0) (script : List ℕ) : Run → S → Run → S → Type 0 where
  ends : {r : Run} {s : S} → goes script r ≡ false → Follows turns sums script r s r s
  passes : {r r' : Run} {s s' : S} → goes script r ≡ true → (read script r).play.asks ≡ false
      → Follows turns sums script (read script r) s r' s' → Follows turns sums script r s r' s'
  asks : {r r' : Run} {s next s' : S} {a : Answer} {n : ℕ} → goes script r ≡ true → (read script r).play.asks ≡ true
      → turns s (read script r).line.call next a → sums next n
      → Follows turns sums script (judged_by (read script r) a n) next r' s' → Follows turns sums script r s r' s'
