-- Records laid out as bytes in the order of the journal, the oldest first, and read back; and what a record written behind the first n leaves of
-- the bytes before and behind it. Assumes nothing.
use Rattle.std.specs.Prelude.{◌≡◌, refl, List, [], ◌∷◌, ◌++◌, ℕ, zero, suc, ◌+◌, ◌*◌, ◌-◌, ◌≤◌, length, take, drop}
use Rattle.std.proofs.Common.{ap, sym, ◌∙◌, append_assoc, arith, length-append, drop-drop, length-take-le, take_all}
use Rattle.std.proofs.lemmas.List.{take-append-le}
use Rattle.std.proofs.Math.Seq.{drop-append-add}
use Rattle.rules.specs.declared.Record.{Record}
use Rattle.rules.specs.Kinds.{record_size}
use Rattle.record.specs.Bytes.{Bytes, le, field_at, record_at, records_in, bytes_of, appended, laid}
use Rattle.record.specs.Laws.{Fit, fit_read, record_back}

-- every record fits its bytes
pub data AllFit : List Record → Type 0 where
  none : AllFit []
  more : {r : Record} {older : List Record} → Fit r → AllFit older → AllFit (r ∷ older)

pub length_laid : (rs : List Record) → length (laid rs) ≡ length rs * record_size
length_laid [] = refl
length_laid (r ∷ older) = rw (length-append, length_laid older) (omega arith)

-- records that are laid out are read back
pub records_laid : (rs : List Record) (x : List ℕ) → AllFit rs → records_in (length rs) (laid rs ++ x) ≡ rs
records_laid [] x f = refl
records_laid (r ∷ older) x (more f fs) =
    let back : record_at (laid older ++ (bytes_of r ++ x)) (length older * record_size) ≡ r =
    ap (record_at (laid older ++ (bytes_of r ++ x))) (sym (length_laid older)) ∙ record_back (laid older) x r f
    in
    rw append_assoc
    (ap (λ (y : Record). y ∷ records_in (length older) (laid older ++ (bytes_of r ++ x))) back
    ∙ ap (λ (rs : List Record). r ∷ rs) (records_laid older (bytes_of r ++ x) fs))

-- records that were read from bytes fit
pub fit_records : (n : ℕ) (b : List ℕ) → Bytes b → AllFit (records_in n b)
fit_records zero b h = none
fit_records (suc n) b h = more (fit_read b (n * record_size) h) (fit_records n b h)

-- bytes that agree from a place on agree from any later one on
pub drop_more : (b d : List ℕ) (at n : ℕ) → drop at b ≡ drop at d → drop (at + n) b ≡ drop (at + n) d
drop_more b d at n e = sym (drop-drop n at b) ∙ ap (drop n) e ∙ drop-drop n at d

-- a record is read from where it stands on
pub record_drop : (b d : List ℕ) (at : ℕ) → drop at b ≡ drop at d → record_at b at ≡ record_at d at
record_drop b d at e =
    let f : (n w : ℕ) → field_at b (at + n) w ≡ field_at d (at + n) w =
    λ n w. ap (λ (x : List ℕ). le (take w x)) (drop_more b d at n e)
    in
    let k : field_at b at 1 ≡ field_at d at 1 = ap (λ (x : List ℕ). le (take 1 x)) e in
    rw (k, f 1 3, f 4 4, f 8 4, f 12 4, f 16 8)

-- one record more, in front of those that stand behind it
module _ (b : List ℕ) (n : ℕ) (r : Record) (h : n * record_size + record_size ≤ length b) where
  long : length (take (n * record_size) b ++ bytes_of r) ≡ n * record_size + record_size
  long = rw (length-append, length-take-le (n * record_size) b (omega arith))

  parted : appended b n r ≡ (take (n * record_size) b ++ bytes_of r) ++ drop (n * record_size + record_size) b
  parted = sym (append_assoc (take (n * record_size) b) (bytes_of r) (drop (n * record_size + record_size) b))

  pub take_appended : take ((n + 1) * record_size) (appended b n r) ≡ take (n * record_size) b ++ bytes_of r
  take_appended =
      let a = take (n * record_size) b ++ bytes_of r in
      let l : length a ≡ n * record_size + record_size = long in
      rw (parted, take-append-le ((n + 1) * record_size) a (drop (n * record_size + record_size) b) (omega arith))
      (take_all ((n + 1) * record_size) a (omega arith))

  pub drop_appended : (i : ℕ) → n ≤ i → drop ((i + 1) * record_size) (appended b n r) ≡ drop ((i + 1) * record_size) b
  drop_appended i k =
      let a = take (n * record_size) b ++ bytes_of r in
      let l : length a ≡ n * record_size + record_size = long in
      let e : (i + 1) * record_size ≡ length a + (i - n) * record_size = omega arith in
      rw (parted, e, drop-append-add a (drop (n * record_size + record_size) b) ((i - n) * record_size))
      (rw (drop-drop ((i - n) * record_size) (n * record_size + record_size) b, l))
