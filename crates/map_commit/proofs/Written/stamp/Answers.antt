-- `map_commit::Written::stamp` meets its contract: the loop's invariant is that the rows that count among the first i are written. Assumes nothing.
use mathlib.Core.Path.{◌≡◌, sym, ap, ◌∙◌}
use mathlib.Core.Bool.{Bool, true, false}
use mathlib.Core.List.{List}
use Prim.Native.Nat.{ℕ, ◌+◌, ◌≤◌, ◌<◌}
use lib.ListN.{length}
use Rattle.rules.specs.Value.{Value}
use Rattle.slot.specs.declared.Slot.{Slot}
use Rattle.slot.specs.Places.{Note}
use Rattle.versions.specs.declared.Version.{Version}
use Rattle.versions.specs.Versions.{Columns, columns, versions_of, value_at}
use Rattle.versions.specs.Columns.{Spans, Long, with_version}
use Rattle.versions.specs.Laws.{lent_fewer, lent_long}
use Rattle.map_store.specs.Meaning.{firsts, version_of}
use Rattle.map_store.specs.MeaningLaws.{written_long}
use Rattle.map_commit.specs.Commit.{rows_to, row_at, is_first, newest_in, Stamped}
use Rattle.map_commit.specs.RowLaws.{first_more, first_same, firsts_among, stamped_more, stamped_used}
use native.Mathlib.Omega.{arith}
use Rattle.map_commit.proofs.Written.stamp.Goals as goal
use Rattle.map_commit.proofs.Written.stamp.Goals.{then-is_first, else-is_first}

-- what was written leaves the lengths
long : (newest : ℕ → Value) (t used : ℕ) (rows : List Note) (cs cs' : Columns) (r : ℕ) → Stamped newest t used rows cs cs' r → Long cs cs'
long newest t used rows cs cs' r w = rw w.cells (written_long newest used t rows cs)

module _ (s : Slot) (last t used : ℕ) (cs : Columns) (i : ℕ) (cs₁ : Columns) (at : ℕ)
    (w : Stamped (newest_in last used cs) t used (firsts (rows_to s i)) cs cs₁ at) where
  -- the used rows are lent still
  lent_used : (rows : ℕ) → Spans (used + rows) cs → Spans used cs₁
  lent_used rows p = lent_long (lent_fewer p (omega arith)) (long _ t used (firsts (rows_to s i)) cs cs₁ at w)

  module _ (b : Bool) (e : b ≡ is_first s i) where
    -- a row that counts has a lent row
    room : (n : ℕ) → i < n → b ≡ true → Spans (used + length (firsts (rows_to s n))) cs → Spans (at + 1) cs₁
    room n l f p =
        let m : length (firsts (rows_to s (i + 1))) ≤ length (firsts (rows_to s n)) = firsts_among s (i + 1) n (omega arith) in
        let z = first_more s i (sym e ∙ f) in
        let y : length (firsts (rows_to s (i + 1))) ≡ length (firsts (rows_to s i)) + 1 = rw z (omega arith) in
        lent_long (lent_fewer p (omega (arith, w.count))) (long _ t used (firsts (rows_to s i)) cs cs₁ at w)

    -- the newest values are those before the commit: what was written stands behind the used rows
    more : b ≡ true → (v : Version) → v ≡ version_of (newest_in last used cs₁) t (row_at s i) → (cs₂ : Columns) → cs₂ ≡ with_version at v cs₁
        → Stamped (newest_in last used cs) t used (firsts (rows_to s (i + 1))) cs cs₂ (at + 1)
    more f v q cs₂ p =
        let same : versions_of used cs₁ ≡ versions_of used cs = rw w.cells (stamped_used (newest_in last used cs) t used (firsts (rows_to s i)) cs) in
        let here : v ≡ version_of (newest_in last used cs) t (row_at s i) =
        q ∙ ap (λ (vs : List Version). version_of (λ k. value_at k last vs) t (row_at s i)) same
        in
        rw (first_more s i (sym e ∙ f))
        (stamped_more (newest_in last used cs) t used (firsts (rows_to s i)) (row_at s i) cs cs₁ cs₂ at w
        (p ∙ ap (λ (u : Version). with_version at u cs₁) here))

    same : b ≡ false → Stamped (newest_in last used cs) t used (firsts (rows_to s (i + 1))) cs cs₁ at
    same f = rw (first_same s i (sym e ∙ f)) w

pub append-requires : goal.append-requires
append-requires c =
    let a = c.args in
    let cs = columns a.keys.now a.times.now a.values.now a.marks.now in
    room a.self.slot.now a.last a.t a.used cs c.loop-i.i _ _ c.loop-i.invariant.1
    _ c.is_first.ensures a.self.slot.now.count c.loop-i-test.true c.if-is_first.true c.requires.1

pub loop-i-preserved : goal.loop-i-preserved
loop-i-preserved c =
    let a = c.args in
    let cs = columns a.keys.now a.times.now a.values.now a.marks.now in
    let l = c.loop-i in
    elim c.if-is_first.branch [
      | then-is_first w ↦ (
        omega (arith, l.invariant.0, w.at-is),
        rw (w.keys-is, w.times-is, w.values-is, w.marks-is, w.at-is)
            (more a.self.slot.now a.last a.t a.used cs l.i _ _ l.invariant.1
            _ c.is_first.ensures w.if-is_first.true _ (rw (w.new.ensures.0, w.new.ensures.1, w.new.ensures.2) at (w.version-v.ensures l.marks)) _ w.append.ensures),
      )
      | else-is_first w ↦ (
        omega (arith, l.invariant.0, w.at-is),
        rw (w.keys-is, w.times-is, w.values-is, w.marks-is, w.at-is)
            (same a.self.slot.now a.last a.t a.used cs l.i _ _ l.invariant.1
            _ c.is_first.ensures w.if-is_first.false),
      )
    ]
