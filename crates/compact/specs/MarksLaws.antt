-- Laws of marks. Assumes nothing.
use Rattle.std.specs.Prelude.{◌≡◌, refl, Bool, true, false, List, [], ℕ, ◌%◌, ◌<◌, eqb, length, get_or, set, replicate}
use Rattle.std.proofs.Common.{sym, ap, ◌∙◌, mod-lt, arith, eqb-true, eq-eqb, ne_eqb, length-set, get_or-set_same, get_or-set_other}
use Rattle.std.proofs.lemmas.Bool.{eqb-false}
use Rattle.std.proofs.lemmas.List.{length-replicate, get_or-replicate}
use Rattle.rules.specs.Bools.{split}
use Rattle.rules.specs.Lists.{among}
use Rattle.column.specs.AmongLaws.{among_end}
use Rattle.compact.specs.Marks.{Marks, MarkSet}

-- at first there is none
pub no_marks : (marks : List ℕ) → marks ≡ replicate 1024 0 → Marks [] marks true
no_marks marks e =
    record {
      long = ap length e ∙ length-replicate {A = ℕ} 1024 0;
      told =
          λ t m z.
          rw (e, get_or-replicate {A = ℕ} 1024 (m % 1024) 0 0 (omega (arith, mod-lt m {m = 1024} (omega arith)))) (ne_eqb 0 m (λ q. z (sym q)));
    }

module _ (marks : List ℕ) (n at : ℕ) (e : at ≡ n % 1024) (l : length marks ≡ 1024) where
  within : at < length marks
  within = omega (arith, mod-lt n {m = 1024} (omega arith))

  -- the place was free
  pub mark_new : get_or marks at 0 ≡ 0 → MarkSet marks n true (set marks at n)
  mark_new f =
      record {
        long = length-set marks at n;
        told =
            λ t numbers h m z.
            rw (among_end m n numbers)
            (split (eqb (m % 1024) at)
            (λ q.
            let w : m % 1024 ≡ at = eqb-true (m % 1024) at q in
            let g : among m numbers ≡ false = sym (h m z) ∙ rw (w, f) (ne_eqb 0 m (λ x. z (sym x))) in
            rw (w, get_or-set_same marks at n 0 within, g) (split (eqb n m) (λ x. rw x) (λ x. rw x)))
            (λ q.
            let w = eqb-false (m % 1024) at q in
            let g : eqb n m ≡ false = ne_eqb n m (λ x. w (ap (λ (y : ℕ). y % 1024) (sym x) ∙ sym e)) in
            rw (get_or-set_other marks at (m % 1024) n 0 w, g) (h m z)));
      }

  -- the place is the number's own, or another's
  pub mark_old : (b : Bool) → b ≡ eqb (get_or marks at 0) n → MarkSet marks n b marks
  mark_old b f =
      record {
        long = refl;
        told =
            λ t numbers h m z.
            let g : get_or marks at 0 ≡ n = eqb-true (get_or marks at 0) n (sym f ∙ t) in
            rw (among_end m n numbers)
            (split (eqb n m)
            (λ x.
            let y : n ≡ m = eqb-true n m x in
            let w : m % 1024 ≡ at = ap (λ (k : ℕ). k % 1024) (sym y) ∙ sym e in
            rw (x, w) (eq-eqb (get_or marks at 0) m (g ∙ y)))
            (λ x. rw x (h m z)));
      }
