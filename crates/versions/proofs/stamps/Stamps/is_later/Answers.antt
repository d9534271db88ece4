-- `Stamps::is_later` meets its contract: rows that are passed have no later version either.
use Rattle.std.proofs.Common.{◌≡◌, false, ℕ, List, sym, ◌∙◌, arith, rules}
use Rattle.versions.specs.Versions.{columns, versions_of, later}
use Rattle.versions.specs.Laws.{later_among}
use Rattle.versions.specs.Search.{Passed}
use Rattle.versions.specs.SearchLaws.{later_passed, early_none, passed_none, passed_more}
use Rattle.versions.proofs.stamps.Stamps.is_later.Goals as goal
use Rattle.versions.proofs.stamps.Stamps.is_later.Goals.{After-pass-i}

-- no row that is passed has the key
passed : (c : After-pass-i) → Passed c.args.k c.args.self.keys.now c.loop-i.i c.args.self.used c.pass-i.result
passed c =
    let a = c.args in
    let i = c.loop-i.i in
    let w = c.pass-i.ensures in
    passed_more a.k a.self.keys.now i a.self.used {i = i} c.pass-i.result w.0 w.1 a.self.there.0 (search (rules, w.2))
    (passed_none a.k a.self.keys.now i a.self.used c.loop-i.invariant.0)

-- rows that are passed have no later version
none : (c : After-pass-i) (values : List ℕ)
    → later c.args.s c.args.k c.args.adds (versions_of c.pass-i.result (columns c.args.self.keys.now c.args.self.times.now values c.args.marks.now)) ≡ false
none c values =
    let a = c.args in
    later_passed a.k (columns a.self.keys.now a.self.times.now values a.marks.now) (passed c) a.s a.adds ∙ c.loop-i.invariant.1 values

pub loop-i-init : goal.loop-i-init
loop-i-init c =
    let a = c.args in
    (c.requires.0, λ values. early_none a.k (columns a.self.keys.now a.self.times.now values a.marks.now) a.s a.adds a.from c.requires.2)

pub returns-then-i-self : goal.returns-then-i-self
returns-then-i-self c values =
    let e : c.pass-i.result ≡ c.args.self.used = omega (arith, c.pass-i.ensures.1) in
    sym (rw e at (none (goal.at.returns-then-i-self c).After-pass-i values))

pub is_later_among-requires : goal.is_later_among-requires
is_later_among-requires c = (omega arith, omega arith, c.requires.1, none (goal.at.is_later_among-requires c).After-pass-i)

pub returns-then-is_later_among : goal.returns-then-is_later_among
returns-then-is_later_among c values =
    let a = c.args in
    sym (later_among a.s a.k a.adds c.near-end.result a.self.used (columns a.self.keys.now a.self.times.now values a.marks.now) (omega arith)
    (sym (c.is_later_among.ensures values) ∙ c.if-is_later_among.true))
