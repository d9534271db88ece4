-- `versions::value_at` meets its contract: the row found is a used one, and the value that stands there is the newest version's.
use Rattle.std.proofs.Common.{◌≡◌, [], refl, ◌<◌, sym, ◌∙◌, arith, rules, Some, None}
use Rattle.versions.specs.Versions.{columns}
use Rattle.versions.specs.Laws.{found_version, found_newest, none_found}
use Rattle.versions.proofs.value_at.Goals as goal
use Rattle.versions.proofs.value_at.Goals.{In_ok-i}

row : (c : In_ok-i) → c.in_ok-i.i < c.args.stamps.used
row c =
    let a = c.args in
    let cs = columns a.stamps.keys.now a.stamps.times.now a.values.now [] in
    let e : c.newest_row.result ≡ Some c.in_ok-i.i = search rules in
    (found_newest a.k a.t cs a.stamps.used (sym (c.newest_row.ensures cs) ∙ e)).row

pub offset_bounds-values-i : goal.offset_bounds-values-i
offset_bounds-values-i c = omega (arith, row (goal.at.offset_bounds-values-i c).In_ok-i, c.requires)

pub bounds-values-i : goal.bounds-values-i
bounds-values-i c = omega (arith, row (goal.at.bounds-values-i c).In_ok-i, c.requires)

pub returns : goal.returns
returns c marks =
    let a = c.args in
    let cs = columns a.stamps.keys.now a.stamps.times.now a.values.now marks in
    let e : c.newest_row.result ≡ Some c.in_ok-i.i = search rules in
    rw (found_version a.k a.t cs a.stamps.used (sym (c.newest_row.ensures cs) ∙ e)) refl

pub returns-in_err-i : goal.returns-in_err-i
returns-in_err-i c marks =
    let a = c.args in
    let cs = columns a.stamps.keys.now a.stamps.times.now a.values.now marks in
    let e : c.newest_row.result ≡ None = search rules in
    let z : c.from_residual.result ≡ None = search rules in
    z ∙ rw (none_found a.k a.t cs a.stamps.used (sym (c.newest_row.ensures cs) ∙ e)) refl
