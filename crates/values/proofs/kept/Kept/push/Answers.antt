-- `values::kept::Kept::push` meets its contract. Assumes nothing.
use Rattle.std.proofs.Common.{◌≡◌, length, refl, arith, rules}
use Rattle.values.specs.PassLaws.{kept_more}
use Rattle.values.proofs.kept.Kept.push.Goals as goal

pub returns : goal.returns
returns g c =
    let s = c.args.self.now in
    let r = c.args.r in
    let a : length s.transactions ≡ g.row.N = search rules in
    let b : length s.kinds ≡ g.row.N = search rules in
    let d : length s.amounts ≡ g.row.N = search rules in
    record {
      count = refl;
      does =
          λ m old.
          kept_more s.transactions s.kinds s.amounts s.count r.transaction r.kind r.value m old
          (omega (arith, a, c.requires)) (omega (arith, b, c.requires)) (omega (arith, d, c.requires));
    }
