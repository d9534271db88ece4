-- `versions::Stamps::newer_row` meets its contract: each way out is the case of `newest_step` that its tests lead to.
use mathlib.Core.Path.{◌≡◌, sym, ◌∙◌}
use Prim.Native.Nat.{ℕ, ◌+◌, ◌≤◌, ◌<◌}
use native.Mathlib.Numerals.{add-one}
use native.Mathlib.Omega.{arith}
use borrow.Author.Tests.{eq-eqb, ne_eqb, le-leb, lt-leb, lt-ltb, le-ltb}
use lib.ListN.{get_or}
use Rattle.std.specs.Prelude.{Option, Some, None}
use Rattle.versions.specs.Versions.{Columns, no_columns, keyed, versions_of, newest, row_of}
use Rattle.versions.specs.Laws.{length_versions, found_version, found_newest, none_found}
use Rattle.versions.proofs.stamps.Stamps.newer_row.Goals as goal

module _ (cs : Columns) (i k t : ℕ) (best : Option ℕ) (pre : best ≡ row_of (newest k t (versions_of i cs))) where
  other : (get_or cs.keys i 0 ≡ k → ⊥) → best ≡ row_of (newest k t (versions_of (i + 1) cs))
  other h = rw (add-one, ne_eqb (get_or cs.keys i 0) k h) pre

  module _ (a : get_or cs.keys i 0 ≡ k) where
    late : t < get_or cs.times i 0 → best ≡ row_of (newest k t (versions_of (i + 1) cs))
    late l = rw (add-one, eq-eqb (get_or cs.keys i 0) k a, lt-leb (get_or cs.times i 0) t l) pre

    module _ (b : get_or cs.times i 0 ≤ t) where
      first : best ≡ None → Some i ≡ row_of (newest k t (versions_of (i + 1) cs))
      first e =
          rw (
            add-one,
            none_found k t cs i (sym pre ∙ e),
            eq-eqb (get_or cs.keys i 0) k a,
            le-leb (get_or cs.times i 0) t b,
            length_versions i cs,
          )

      module _ (j : ℕ) (e : best ≡ Some j) where
        newer : get_or cs.times j 0 < get_or cs.times i 0 → Some i ≡ row_of (newest k t (versions_of (i + 1) cs))
        newer l =
            rw (
              add-one,
              found_version k t cs i (sym pre ∙ e),
              eq-eqb (get_or cs.keys i 0) k a,
              le-leb (get_or cs.times i 0) t b,
              lt-ltb (get_or cs.times j 0) (get_or cs.times i 0) l,
              length_versions i cs,
            )

        not_newer : get_or cs.times i 0 ≤ get_or cs.times j 0 → Some j ≡ row_of (newest k t (versions_of (i + 1) cs))
        not_newer l =
            rw (
              add-one,
              found_version k t cs i (sym pre ∙ e),
              eq-eqb (get_or cs.keys i 0) k a,
              le-leb (get_or cs.times i 0) t b,
              le-ltb (get_or cs.times j 0) (get_or cs.times i 0) l,
            )

  -- the row found is one before row i
  within : (j : ℕ) → best ≡ Some j → j < i
  within j e = (found_newest k t cs i (sym pre ∙ e)).row

pub offset_bounds-self-j : goal.offset_bounds-self-j
offset_bounds-self-j c =
    let a = c.args in
    let cs = keyed a.self.keys.now a.self.times.now no_columns in
    omega (arith, within cs a.i a.k a.t a.best (c.requires.1 cs) _ c.in-Some.is)

pub bounds-self-j : goal.bounds-self-j
bounds-self-j c =
    let a = c.args in
    let cs = keyed a.self.keys.now a.self.times.now no_columns in
    omega (arith, within cs a.i a.k a.t a.best (c.requires.1 cs) _ c.in-Some.is)

pub returns-then-self-j : goal.returns-then-self-j
returns-then-self-j c others =
    let a = c.args in
    let cs = keyed a.self.keys.now a.self.times.now others in
    newer cs a.i a.k a.t a.best (c.requires.1 cs) c.if-self-i.false c.if-self-i-2.false _ c.in-Some.is c.if-self-j.true

pub returns-else-self-j : goal.returns-else-self-j
returns-else-self-j c others =
    let a = c.args in
    let cs = keyed a.self.keys.now a.self.times.now others in
    not_newer cs a.i a.k a.t a.best (c.requires.1 cs) c.if-self-i.false c.if-self-i-2.false _ c.in-Some.is c.if-self-j.false

pub returns-in-None : goal.returns-in-None
returns-in-None c others =
    let a = c.args in
    let cs = keyed a.self.keys.now a.self.times.now others in
    first cs a.i a.k a.t a.best (c.requires.1 cs) c.if-self-i.false c.if-self-i-2.false c.in-None.is
