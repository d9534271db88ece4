-- What the functions that write a text into a lent buffer promise: the place behind it, and every byte of the buffer. Assumes nothing.
use Rattle.std.specs.Prelude.{◌≡◌, List, ◌++◌, ℕ, ◌+◌, ◌≤◌, length, take, drop}
use Rattle.journal_store.specs.declared.Head.{Head}
use Rattle.report.specs.Text.{report_text, report_cells}

-- a buffer with a text from a place on
abbrev pub placed : List ℕ → ℕ → List ℕ → List ℕ
placed b at text = take at b ++ (text ++ drop (at + length text) b)

-- a text stands in the buffer from `at` on, the answer r is the place behind it, and every other byte is as it was
pub record Written (entry : List ℕ) (at : ℕ) (text : List ℕ) (r : ℕ) (exit : List ℕ) : Type 0 where
  pub next : r ≡ at + length text
  pub bytes : exit ≡ placed entry at text

-- the answer is the length of the text, the buffer starts with the text and is as it was behind it, and the journal is as recovery leaves it; so
-- the answer is a place within the buffer
pub record Reported (h : Head) (keys values j : List ℕ) (survived : ℕ) (out : List ℕ) (r : ℕ) (j' out' : List ℕ) : Type 0 where
  pub count : r ≡ length (report_text h keys values j survived)
  pub text : out' ≡ report_text h keys values j survived ++ drop (length (report_text h keys values j survived)) out
  pub cells : j' ≡ report_cells h keys values j survived
  pub within : r ≤ length out'
