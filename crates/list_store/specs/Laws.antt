-- What the calls give: the report from a byte on, and what is printed and said for a whole store and for anything else. Assumes nothing.
use Rattle.std.specs.Prelude.{◌≡◌, refl, Bool, false, cond, List, ◌++◌, ℕ, ◌-◌, ◌≤◌, eqb, length, take, drop, get_or}
use Rattle.std.proofs.Common.{sym, ap, ◌∙◌, append-nil, arith, zero-add, eq-eqb, ne_eqb, length-append, length-drop, take_all}
use borrow.Rule.Slice.PartMut.{put_mid, Post-is}
use Rattle.std.proofs.Math.Seq.{drop-length}
use Rattle.journal_store.specs.declared.Head.{Head}
use Rattle.report.specs.Text.{report_text, report_cells}
use Rattle.report.specs.Written.{Written, Reported}
use Rattle.report.specs.Refused.{is_refused}
use Rattle.report.specs.RefusedLaws.{letter_tells}
use Rattle.store_file.specs.Layout.{journal_at, is_whole, head_of, base_keys, base_values, journal_of}
use Rattle.store_file.specs.Laws.{WholeAt}
use Rattle.list_store.specs.declared.Ending.TheVariants.{Listed, Refused, Broken}
use Rattle.list_store.specs.Text.{no_store, store_text, ending_of, Output, ReportedFrom}

-- the report of the part of a file from a byte on, with the part back in its place
pub reported_from : (h : Head) (keys values file : List ℕ) (start : ℕ) {out part out' : List ℕ} {r : ℕ} → start ≤ length file
    → Reported h keys values (take (length file - start) (drop start file)) (length file - start) out r part out'
    → ReportedFrom h keys values file start out r (put_mid start (length file - start) file part) out'
reported_from h keys values file start {out} {part} {out'} {r} l p =
    let m : take (length file - start) (drop start file) ≡ drop start file = take_all (length file - start) (drop start file) (rw length-drop (omega arith)) in
    let q : Reported h keys values (drop start file) (length file - start) out r part out' = rw m at p in
    record {
      count = q.count;
      text = q.text;
      cells = rw (Post-is start (length file) file l, drop-length, append-nil) (ap (λ (x : List ℕ). take start file ++ x) q.cells);
      within = q.within;
    }

module _ (file : List ℕ) where
  -- the text and the journal of a whole store, where so many bytes survived
  abbrev text_of : ℕ → List ℕ
  text_of n = report_text (head_of file) (base_keys file) (base_values file) (journal_of file) n

  abbrev cells_of : ℕ → List ℕ
  cells_of n = report_cells (head_of file) (base_keys file) (base_values file) (journal_of file) n

  -- a file that is no whole store
  module _ (w : is_whole file ≡ false) where
    pub none_printed : {out out' : List ℕ} {r : ℕ} → Written out 0 no_store r out' → Output file out r file out'
    none_printed {out} {out'} {r} p =
        let n : r ≡ length no_store = p.next ∙ zero-add (length no_store) in
        let b : out' ≡ no_store ++ drop (length no_store) out = p.bytes in
        let e : store_text file ≡ no_store = ap (λ (y : Bool). cond y (text_of (length (journal_of file))) no_store) w in
        record {
          count = n ∙ ap length (sym e);
          text = b ∙ ap (λ (x : List ℕ). x ++ drop (length x) out) (sym e);
          cells = sym (ap (λ (y : Bool). cond y (take (journal_at file) file ++ cells_of (length (journal_of file))) file) w);
          within = omega (arith, n, ap length b, length-append no_store (drop (length no_store) out));
        }

    pub none_told : Broken ≡ ending_of file
    none_told = rw w

  -- a whole store
  module _ {keys' values' : List ℕ} {h : Head} {start : ℕ} (k : WholeAt file keys' values' h start) {out file' out' : List ℕ} {r : ℕ}
      (p : ReportedFrom h (take h.base.rows keys') (take h.base.rows values') file start out r file' out') where
    known : ReportedFrom (head_of file) (base_keys file) (base_values file) file (journal_at file) out r file' out'
    known = rw (k.keys_front, k.values_front, k.headed, k.starts) at p

    survived : length file - journal_at file ≡ length (journal_of file)
    survived = sym (length-drop (journal_at file) file)

    reported : Reported (head_of file) (base_keys file) (base_values file) (journal_of file) (length (journal_of file)) out r (cells_of (length (journal_of file))) out'
    reported =
        record {
          count = known.count ∙ ap (λ (n : ℕ). length (text_of n)) survived;
          text = known.text ∙ ap (λ (n : ℕ). text_of n ++ drop (length (text_of n)) out) survived;
          cells = refl;
          within = known.within;
        }

    pub whole_printed : Output file out r file' out'
    whole_printed =
        let e : store_text file ≡ text_of (length (journal_of file)) = ap (λ (y : Bool). cond y (text_of (length (journal_of file))) no_store) k.whole in
        record {
          count = reported.count ∙ ap length (sym e);
          text = reported.text ∙ ap (λ (x : List ℕ). x ++ drop (length x) out) (sym e);
          cells =
              known.cells
              ∙ ap (λ (n : ℕ). take (journal_at file) file ++ cells_of n) survived
              ∙ sym (ap (λ (y : Bool). cond y (take (journal_at file) file ++ cells_of (length (journal_of file))) file) k.whole);
          within = known.within;
        }

    letter : is_refused (head_of file) (base_keys file) (base_values file) (journal_of file) (length (journal_of file)) ≡ eqb (get_or out' 0 0) 114
    letter = sym (letter_tells (head_of file) (base_keys file) (base_values file) (journal_of file) (length (journal_of file)) reported)

    pub told_refused : get_or out' 0 0 ≡ 114 → Refused ≡ ending_of file
    told_refused e = rw (k.whole, letter, eq-eqb (get_or out' 0 0) 114 e)

    pub told_listed : (get_or out' 0 0 ≡ 114 → ⊥) → Listed ≡ ending_of file
    told_listed n = rw (k.whole, letter, ne_eqb (get_or out' 0 0) 114 n)
