-- What stays is what the rules say: by the columns of a checkpoint, and by those of a recovery whose walk accepted every record. And the journal
-- that is left is as long as it was, and reads as the records that stay. Assumes nothing.
use Rattle.std.specs.Prelude.{◌≡◌, refl, Bool, true, ◌&&◌, List, [], ◌∷◌, ◌++◌, ℕ, ◌+◌, ◌*◌, ◌-◌, ◌^◌, ◌≤◌, ◌<◌, eqb, leb, ltb, length, take, drop, replicate}
use Rattle.std.proofs.Common.{sym, ap, ◌∙◌, arith, length-append, length-drop, eqb-true, leb-true, ltb-true, lt-ltb}
use Rattle.std.proofs.Math.Nat.{max-eq_right}
use Rattle.std.proofs.lemmas.List.{length-replicate}
use Rattle.rules.specs.declared.Record.{Record}
use Rattle.rules.specs.Bools.{split, and_left, and_right}
use Rattle.rules.specs.Kinds.{record_size, is_begin, is_commit}
use Rattle.rules.specs.Transactions.{any, of, running}
use Rattle.rules.specs.Times.{last}
use Rattle.rules.specs.Checkpoints.{late, stays, is_known, known, raise, sift, kept}
use Rattle.rules.specs.Recovery.{formed, judge, accepts, done, only, survivors}
use Rattle.record.specs.Bytes.{records_in, laid}
use Rattle.record.specs.Laws.{Fit}
use Rattle.record.specs.Laid.{AllFit, none, more, length_laid, records_laid, drop_more}
use Rattle.journal.specs.Gathered.{lates, Gathered}
use Rattle.journal.specs.GatheredLaws.{running_held, late_held}
use Rattle.journal.specs.PastLaws.{low_last}
use Rattle.rules.specs.Judged.{judged}
use Rattle.compact.specs.Compact.{kept_in, sifted, zeroed, compacted, Moved, Compacted}

-- tests that agree on every record sift alike
pub sifted_same : (p q : Record → Bool) → ((r : Record) → p r ≡ q r) → (T : ℕ) (rs : List Record) → sifted p T rs ≡ sifted q T rs
sifted_same p q h T [] = refl
sifted_same p q h T (r ∷ rs) = rw (h r, sifted_same p q h T rs)

sift_known : (keep : ℕ → Bool) (T : ℕ) (rs : List Record) → sifted (λ r. is_known r && keep r.transaction) T rs ≡ sift keep T (known rs)
sift_known keep T [] = refl
sift_known keep T (r ∷ rs) =
    split (is_known r)
    (λ e. rw (e, sift_known keep T rs))
    (λ e. rw e (sift_known keep T rs))

-- what a checkpoint at T keeps
pub kept_sifted : (T : ℕ) (rs : List Record) → sifted (λ r. is_known r && stays T rs r.transaction) T rs ≡ kept T rs
kept_sifted T rs = sift_known (stays T rs) T rs

-- by its two columns
pub kept_columns : (T used opened late : ℕ) (rs : List Record) (entry numbers other later : List ℕ) → Gathered (running rs) used opened entry numbers
    → Gathered (lates T rs) used late other later → sifted (kept_in (take opened numbers) (take late later)) T rs ≡ kept T rs
kept_columns T used opened late rs entry numbers other later h l =
    sifted_same (kept_in (take opened numbers) (take late later)) (λ r. is_known r && stays T rs r.transaction)
    (λ r. rw (running_held rs used opened entry numbers h r.transaction, late_held rs used late other later T l r.transaction)) T rs
    ∙ kept_sifted T rs

-- a record of section 4 is of a known kind
formed_known : (r : Record) → formed r ≡ true → is_known r ≡ true
formed_known r h =
    split (is_begin r)
    (λ e. rw (eqb-true r.kind 1 e))
    (λ b.
    split (is_commit r)
    (λ e. rw (eqb-true r.kind 4 e))
    (λ c.
    split (eqb r.kind 2)
    (λ e. rw (eqb-true r.kind 2 e))
    (λ a.
    split (eqb r.kind 3)
    (λ e. rw (eqb-true r.kind 3 e))
    (λ d.
    let five : (eqb r.kind 5 && (eqb r.key 0 && (eqb r.value 0 && eqb r.time 0))) ≡ true =
    rw (b, c, a, d) at (and_right (eqb r.zeros 0) _ h)
    in
    rw (eqb-true r.kind 5 (and_left (eqb r.kind 5) (eqb r.key 0 && (eqb r.value 0 && eqb r.time 0)) five))))))

module _ (low : ℕ) (r : Record) (older : List Record) (h : judge low older r ≡ true) where
  judged_known : is_known r ≡ true
  judged_known = formed_known r (judged low older r h).formed

  -- its begin needs no raise to low
  judged_raised : raise low r ≡ r
  judged_raised =
      split (is_begin r)
      (λ b.
      let t : (leb low r.time && leb r.time (last low older)) ≡ true = rw b at (judged low older r h).timely in
      let l : low ≤ r.time = leb-true low r.time (and_left (leb low r.time) (leb r.time (last low older)) t) in
      rw (b, max-eq_right l))
      (λ b. rw b)

  -- its commit is later than low
  judged_late : late low r ≡ is_commit r
  judged_late =
      split (is_commit r)
      (λ c.
      let four : r.kind ≡ 4 = eqb-true r.kind 4 c in
      let t : ltb (last low older) r.time ≡ true = rw four at (judged low older r h).timely in
      let l : low < r.time = omega (arith, ltb-true (last low older) r.time t, low_last low older) in
      rw (c, lt-ltb low r.time l))
      (λ c. rw c)

-- in an accepted journal every commit is later than low
pub late_done : (low : ℕ) (rs : List Record) → accepts low rs ≡ true → (n : ℕ) → any (late low) (of n rs) ≡ done rs n
late_done low [] h n = refl
late_done low (r ∷ older) h n =
    let rest : any (late low) (of n older) ≡ done older n = late_done low older (and_right (judge low older r) (accepts low older) h) n in
    split (eqb r.transaction n)
    (λ e. rw (e, judged_late low r older (and_left (judge low older r) (accepts low older) h), rest))
    (λ e. rw e rest)

only_sifted : (low : ℕ) (keep : ℕ → Bool) (rs : List Record) → accepts low rs ≡ true
    → sifted (λ r. is_known r && keep r.transaction) low rs ≡ only keep rs
only_sifted low keep [] h = refl
only_sifted low keep (r ∷ older) h =
    let j = and_left (judge low older r) (accepts low older) h in
    let rest = only_sifted low keep older (and_right (judge low older r) (accepts low older) h) in
    rw (judged_known low r older j, judged_raised low r older j, rest)

-- what recovery keeps, by the column of the transactions that committed later than low
pub survivors_column : (low used late : ℕ) (rs : List Record) (entry numbers : List ℕ) → accepts low rs ≡ true
    → Gathered (lates low rs) used late entry numbers → sifted (kept_in [] (take late numbers)) low rs ≡ survivors rs
survivors_column low used late rs entry numbers h l =
    sifted_same (kept_in [] (take late numbers)) (λ r. is_known r && done rs r.transaction)
    (λ r. rw (late_held rs used late entry numbers low l r.transaction, late_done low rs h r.transaction)) low rs
    ∙ only_sifted low (done rs) rs h

-- the records that stay have moved up, and zeros stand behind them
pub moved_up : (stay rest : List Record) (b moved exit : List ℕ) (used n end : ℕ) → Moved rest b used n moved → rest ≡ stay → used * record_size ≤ end
    → exit ≡ zeroed moved (n * record_size) end → Compacted stay end b n exit
moved_up stay rest b moved exit used n end m e l z =
    let c : n ≡ length stay = m.count ∙ ap length e in
    let w : used * record_size + (end - used * record_size) ≡ end = omega arith in
    let back : drop end moved ≡ drop end b =
    ap (λ (x : ℕ). drop x moved) (sym w) ∙ drop_more moved b (used * record_size) (end - used * record_size) m.back ∙ ap (λ (x : ℕ). drop x b) w
    in
    record { count = c; cells = z ∙ rw (m.front, e, back) (ap (λ (x : ℕ). laid stay ++ (replicate (end - x * record_size) 0 ++ drop end b)) c) }

-- the journal that is left
module _ (stay : List Record) (end : ℕ) (b : List ℕ) where
  pub length_compacted : length stay * record_size ≤ end → end ≤ length b → length (compacted stay end b) ≡ length b
  length_compacted h l = simp (length-append, length_laid stay, length-replicate, length-drop) (omega arith)

  pub records_compacted : AllFit stay → records_in (length stay) (compacted stay end b) ≡ stay
  records_compacted f = records_laid stay (replicate (end - length stay * record_size) 0 ++ drop end b) f

-- what stays fits its bytes
fit_raise : (T : ℕ) (r : Record) → T < 2 ^ 64 → Fit r → Fit (raise T r)
fit_raise T r h f =
    record {
      kind = f.kind;
      zeros = f.zeros;
      transaction = f.transaction;
      key = f.key;
      value = f.value;
      time = split (is_begin r) (λ b. rw b (omega (arith, f.time))) (λ b. rw b f.time);
    }

pub fit_kept : (T : ℕ) (whole rs : List Record) → T < 2 ^ 64 → AllFit rs → AllFit (sift (stays T whole) T (known rs))
fit_kept T whole [] h f = none
fit_kept T whole (r ∷ rs) h (more f fs) =
    let rest = fit_kept T whole rs h fs in
    split (is_known r)
    (λ e. rw e (split (stays T whole r.transaction) (λ k. rw k (more (fit_raise T r h f) rest)) (λ k. rw k rest)))
    (λ e. rw e rest)

pub fit_only : (keep : ℕ → Bool) (rs : List Record) → AllFit rs → AllFit (only keep rs)
fit_only keep [] f = none
fit_only keep (r ∷ rs) (more f fs) = split (keep r.transaction) (λ k. rw k (more f (fit_only keep rs fs))) (λ k. rw k (fit_only keep rs fs))

-- what stays is no more than what was there
pub length_kept : (T : ℕ) (whole rs : List Record) → length (sift (stays T whole) T (known rs)) ≤ length rs
length_kept T whole [] = omega arith
length_kept T whole (r ∷ rs) =
    let rest = length_kept T whole rs in
    split (is_known r)
    (λ e. rw e (split (stays T whole r.transaction) (λ k. rw k (omega arith)) (λ k. rw k (omega arith))))
    (λ e. rw e (omega arith))

pub length_only : (keep : ℕ → Bool) (rs : List Record) → length (only keep rs) ≤ length rs
length_only keep [] = omega arith
length_only keep (r ∷ rs) =
    let rest = length_only keep rs in
    split (keep r.transaction) (λ k. rw k (omega arith)) (λ k. rw k (omega arith))
