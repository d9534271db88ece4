-- A journal that recovery accepted while two adders of one key conflicted it accepts now. What recovery keeps (survivors) asks for no conflict.
-- Assumes nothing.
use Rattle.std.specs.Prelude.{◌≡◌, ℕ, Bool, true, false, not, ◌&&◌, List, [], ◌∷◌, nat_lt, refl}
use Rattle.std.proofs.lemmas.Bool.{not-true}
use Rattle.rules.specs.declared.Record.{Record}
use Rattle.rules.specs.Bools.{split, and_left, and_right, and_both, or_left, or_right, implies_false}
use Rattle.rules.specs.Kinds.{is_update, is_commit}
use Rattle.rules.specs.Transactions.{any, of, snapshot, wrote}
use Rattle.rules.specs.Conflicts.{only_added, met_on, committed_after, touched, clashes, conflict}
use Rattle.rules.specs.Recovery.{formed, numbered, timely, limited, clear, judge, accepts}
use Rattle.rules.specs.Before.{accepts_before, clashed_before, clear_before, conflict_before, judge_before, met_before}

-- a weaker test is passed where a stronger one is
any_weaker : (p q : Record → Bool) → ((r : Record) → p r ≡ true → q r ≡ true) → (rs : List Record) → any p rs ≡ true → any q rs ≡ true
any_weaker p q h [] e = e
any_weaker p q h (r ∷ rs) e =
    split (p r)
    (λ x. or_left (q r) (any q rs) (h r x))
    (λ x. or_right (q r) (any q rs) (any_weaker p q h rs (rw x at e)))

module _ (whole : List Record) (s : ℕ) (own : List Record) where
  -- whoever meets a transaction now met it before
  met_less : (k : ℕ) (c : Record) → committed_after whole s (met_on k own) c ≡ true → committed_after whole s (met_before k own) c ≡ true
  met_less k c e =
      let other = of c.transaction whole in
      let rest = wrote k other && not (only_added k own && only_added k other) in
      let l = and_right (is_commit c) (nat_lt s c.time && (wrote k own && rest)) e in
      let m = and_right (nat_lt s c.time) (wrote k own && rest) l in
      and_both (is_commit c) (nat_lt s c.time && met_before k own other) (and_left (is_commit c) (nat_lt s c.time && (wrote k own && rest)) e)
      (and_both (nat_lt s c.time) (met_before k own other) (and_left (nat_lt s c.time) (wrote k own && rest) l)
      (and_both (wrote k own) (wrote k other) (and_left (wrote k own) rest m)
      (and_left (wrote k other) (not (only_added k own && only_added k other)) (and_right (wrote k own) rest m))))

  clash_less : (r : Record) → clashes whole s own r ≡ true → clashed_before whole s own r ≡ true
  clash_less r e =
      let k = r.key in
      and_both (is_update r) (touched whole s (met_before k own) whole) (and_left (is_update r) (touched whole s (met_on k own) whole) e)
      (any_weaker (committed_after whole s (met_on k own)) (committed_after whole s (met_before k own)) (met_less k) whole
      (and_right (is_update r) (touched whole s (met_on k own) whole) e))

-- who conflicts now conflicted before
pub conflict_less : (n s : ℕ) (rs : List Record) → conflict n s rs ≡ true → conflict_before n s rs ≡ true
conflict_less n s rs = any_weaker (clashes rs s (of n rs)) (clashed_before rs s (of n rs)) (clash_less rs s (of n rs)) (of n rs)

clear_more : (older : List Record) (r : Record) → clear_before older r ≡ true → clear older r ≡ true
clear_more older r e =
    split (is_commit r)
    (λ c.
    let now = conflict r.transaction (snapshot r.transaction older) older in
    let then = conflict_before r.transaction (snapshot r.transaction older) older in
    let none : then ≡ false = not-true then (rw c at e) in
    rw (c, implies_false now then (conflict_less r.transaction (snapshot r.transaction older) older) none))
    (λ c. rw c)

-- A journal that was accepted is accepted.
pub older_journals_recover : (low : ℕ) (rs : List Record) → accepts_before low rs ≡ true → accepts low rs ≡ true
older_journals_recover low [] e = refl
older_journals_recover low (r ∷ older) e =
    let j = and_left (judge_before low older r) (accepts_before low older) e in
    let third = limited older r && clear_before older r in
    let second = timely low older r && third in
    let n = and_right (formed r) (numbered older r && second) j in
    let t = and_right (numbered older r) second n in
    let l = and_right (timely low older r) third t in
    let c = clear_more older r (and_right (limited older r) (clear_before older r) l) in
    and_both (judge low older r) (accepts low older)
    (and_both (formed r) (numbered older r && (timely low older r && (limited older r && clear older r))) (and_left (formed r) (numbered older r && second) j)
    (and_both (numbered older r) (timely low older r && (limited older r && clear older r)) (and_left (numbered older r) second n)
    (and_both (timely low older r) (limited older r && clear older r) (and_left (timely low older r) third t)
    (and_both (limited older r) (clear older r) (and_left (limited older r) (clear_before older r) l) c))))
    (older_journals_recover low older (and_right (judge_before low older r) (accepts_before low older) e))
