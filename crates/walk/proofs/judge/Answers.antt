-- `walk::judge` meets its contract: the five tests in their order. Assumes nothing.
use mathlib.Core.Path.{◌≡◌, sym, ◌∙◌}
use mathlib.Core.Bool.{Bool, true, false}
use mathlib.Core.List.{List}
use Prim.Native.Nat.{ℕ}
use Rattle.rules.specs.declared.Record.{Record}
use Rattle.rules.specs.Recovery.{formed, limited, clear, judge}
use Rattle.record.specs.Records.{records_of}
use Rattle.walk.specs.declared.State.{State}
use Rattle.walk.specs.Walk.{Tracks, numbered_by, timely_by}
use Rattle.walk.specs.Laws.{numbered_by_lem, timely_by_lem, past_by, commit_runs}
use Rattle.walk.proofs.judge.Goals as goal

module _ (low : ℕ) (rs : List Record) (r : Record) (s : State) (h : Tracks low rs s) (f : Bool) (fe : f ≡ formed r) where
  module _ (ft : f ≡ true) (n : Bool) (ne : n ≡ numbered_by s r) where
    misnumbered : n ≡ false → false ≡ judge low rs r
    misnumbered q = rw (sym fe ∙ ft, sym (numbered_by_lem low rs r s h) ∙ sym ne ∙ q)

    module _ (nt : n ≡ true) (t : Bool) (te : t ≡ timely_by low s r) where
      module _ (tt : t ≡ true) (l : Bool) (le : l ≡ limited rs r) where
        cleared : l ≡ true → (b : Bool) → b ≡ clear rs r → b ≡ judge low rs r
        cleared q b e =
            rw (sym fe ∙ ft, sym (numbered_by_lem low rs r s h) ∙ sym ne ∙ nt, sym (timely_by_lem low rs r s h) ∙ sym te ∙ tt, sym le ∙ q) e

pub returns-then-not-numbered : goal.returns-then-not-numbered
returns-then-not-numbered c =
    let a = c.args in
    misnumbered a.low (records_of a.past) a.r a.s c.requires.1 _ c.formed.ensures c.if-not-formed.false _
    c.numbered.ensures c.if-not-numbered.true

pub clear-requires : goal.clear-requires
clear-requires c =
    let a = c.args in (
      c.requires.0,
      c.requires.1.opened,
      past_by a.low (records_of a.past) a.r a.s c.requires.1,
      commit_runs a.low (records_of a.past) a.r a.s c.requires.1 (sym c.numbered.ensures ∙ c.if-not-numbered.false),
    )

pub returns-then-limited : goal.returns-then-limited
returns-then-limited c =
    let a = c.args in
    cleared a.low (records_of a.past) a.r a.s c.requires.1 _ c.formed.ensures c.if-not-formed.false _
    c.numbered.ensures c.if-not-numbered.false _ c.timely.ensures c.if-not-timely.false _ c.limited.ensures
    c.if-limited.true _ c.clear.ensures
