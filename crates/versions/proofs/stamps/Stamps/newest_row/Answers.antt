-- `Stamps::newest_row` meets its contract: rows that are passed leave the best row.
use Rattle.std.proofs.Common.{◌≡◌, sym, ap, ◌∙◌, arith, rules}
use Rattle.versions.specs.Versions.{Columns, keyed, versions_of, newest, row_of}
use Rattle.versions.specs.Search.{Passed}
use Rattle.versions.specs.SearchLaws.{newest_passed, passed_none, passed_more}
use Rattle.versions.proofs.stamps.Stamps.newest_row.Goals as goal
use Rattle.versions.proofs.stamps.Stamps.newest_row.Goals.{After-pass-i}

-- no row that is passed has the key
passed : (c : After-pass-i) → Passed c.args.k c.args.self.keys.now c.loop-i.i c.args.self.used c.pass-i.result
passed c =
    let a = c.args in
    let i = c.loop-i.i in
    let w = c.pass-i.ensures in
    passed_more a.k a.self.keys.now i a.self.used {i = i} c.pass-i.result w.0 w.1 a.self.there.0 (search (rules, w.2))
    (passed_none a.k a.self.keys.now i a.self.used c.loop-i.invariant.0)

-- rows that are passed leave the best row
stays : (c : After-pass-i) (others : Columns)
    → c.loop-i.best ≡ row_of (newest c.args.k c.args.t (versions_of c.pass-i.result (keyed c.args.self.keys.now c.args.self.times.now others)))
stays c others =
    let a = c.args in
    c.loop-i.invariant.1 others ∙ ap row_of (sym (newest_passed a.k (keyed a.self.keys.now a.self.times.now others) (passed c) a.t))

pub newer_rows-best-requires : goal.newer_rows-best-requires
newer_rows-best-requires c = (omega arith, omega arith, stays (goal.at.newer_rows-best-requires c).After-pass-i)

pub returns : goal.returns
returns c others =
    let e : c.pass-i.result ≡ c.args.self.used = omega (arith, c.pass-i.ensures.1) in
    rw e at (stays (goal.at.returns c).After-pass-i others)
