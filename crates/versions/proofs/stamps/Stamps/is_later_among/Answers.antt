-- `Stamps::is_later_among` meets its contract. The loop's invariant: no version of the first i rows is one of k later than s that meets
-- the transaction. The measure is how many rows are left.
use mathlib.Core.Path.{◌≡◌, sym, ◌∙◌}
use mathlib.Core.Bool.{Bool, true, not, ◌&&◌}
use Prim.Native.Nat.{ℕ, ◌+◌, ◌<◌}
use native.Mathlib.Numerals.{add-one}
use native.Mathlib.Omega.{arith}
use borrow.Author.Tests.{eq-eqb, lt-ltb}
use lib.ListN.{get_or}
use Rattle.versions.specs.Versions.{Columns, columns, version_at, versions_of, is_marked, later}
use Rattle.versions.specs.Laws.{later_among}
use Rattle.versions.proofs.stamps.Stamps.is_later_among.Goals as goal

module _ (cs : Columns) (i k s : ℕ) (adds : Bool) where
  -- the version in row i meets the transaction, if it is one of k and later
  abbrev meets : Bool
  meets = not (adds && is_marked (version_at i cs))

  hit : (n : ℕ) → i < n → get_or cs.keys i 0 ≡ k → s < get_or cs.times i 0 → meets ≡ true → true ≡ later s k adds (versions_of n cs)
  hit n l a b m =
      let here : later s k adds (versions_of (i + 1) cs) ≡ true = rw (add-one, eq-eqb (get_or cs.keys i 0) k a, lt-ltb s (get_or cs.times i 0) b, m) in
      sym (later_among s k adds (i + 1) n cs (omega arith) here)

pub returns-then-meets : goal.returns-then-meets
returns-then-meets c values =
    let l = c.loop-i in
    let a = c.args in
    hit (columns a.self.keys.now a.self.times.now values a.marks.now) l.i a.k a.s a.adds a.to (omega arith) c.if-self-i.true c.if-self-i-2.true
    (sym c.meets.ensures ∙ c.if-meets.true)
