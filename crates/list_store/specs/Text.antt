-- What is printed for a store's file, every byte of it, and what the program says beside it. Assumes nothing.
use Rattle.std.specs.Prelude.{◌≡◌, cond, List, [], ◌∷◌, ◌++◌, ℕ, ◌-◌, ◌≤◌, length, take, drop}
use Rattle.journal_store.specs.declared.Head.{Head}
use Rattle.report.specs.Text.{report_text, report_cells}
use Rattle.report.specs.Refused.{is_refused}
use Rattle.store_file.specs.Layout.{journal_at, is_whole, head_of, base_keys, base_values, journal_of}
use Rattle.list_store.specs.declared.Ending.{Ending}
use Rattle.list_store.specs.declared.Ending.TheVariants.{Listed, Refused, Broken}

-- "no whole store"
abbrev pub no_store : List ℕ
no_store = 110 ∷ 111 ∷ 32 ∷ 119 ∷ 104 ∷ 111 ∷ 108 ∷ 101 ∷ 32 ∷ 115 ∷ 116 ∷ 111 ∷ 114 ∷ 101 ∷ 10 ∷ []

-- the report of a whole store's head, base and journal; anything else gets one line
abbrev pub store_text : List ℕ → List ℕ
store_text file =
    cond (is_whole file) (report_text (head_of file) (base_keys file) (base_values file) (journal_of file) (length (journal_of file))) no_store

-- the bytes afterwards: the journal of a whole store as recovery leaves it, and all else as it was
abbrev pub store_cells : List ℕ → List ℕ
store_cells file =
    cond (is_whole file)
    (take (journal_at file) file ++ report_cells (head_of file) (base_keys file) (base_values file) (journal_of file) (length (journal_of file)))
    file

-- no whole store, a refusal of the store, or a listing
abbrev pub ending_of : List ℕ → Ending
ending_of file =
    cond (is_whole file)
    (cond (is_refused (head_of file) (base_keys file) (base_values file) (journal_of file) (length (journal_of file))) Refused Listed)
    Broken

-- the answer is the length of the text, the buffer starts with the text and is as it was behind it
pub record Output (file out : List ℕ) (r : ℕ) (file' out' : List ℕ) : Type 0 where
  pub count : r ≡ length (store_text file)
  pub text : out' ≡ store_text file ++ drop (length (store_text file)) out
  pub cells : file' ≡ store_cells file
  pub within : r ≤ length out'

-- the report of a head, its base and the bytes of a file from a byte on; what stands before is as it was
pub record ReportedFrom (h : Head) (keys values file : List ℕ) (start : ℕ) (out : List ℕ) (r : ℕ) (file' out' : List ℕ) : Type 0 where
  pub count : r ≡ length (report_text h keys values (drop start file) (length file - start))
  pub text :
      out'
      ≡ report_text h keys values (drop start file) (length file - start)
      ++ drop (length (report_text h keys values (drop start file) (length file - start))) out
  pub cells : file' ≡ take start file ++ report_cells h keys values (drop start file) (length file - start)
  pub within : r ≤ length out'
