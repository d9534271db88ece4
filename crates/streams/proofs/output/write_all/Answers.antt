-- What a turn writes is what follows in the text.
use Rattle.std.proofs.Common.{◌≡◌, ◌+◌, ◌-◌, ℕ, List, ◌++◌, length, take, drop, sym, ap, ◌∙◌, subst, rules}
use Rattle.std.proofs.lemmas.List.{take_rest}
use Rattle.std.proofs.KnownBytes.{Appends-trans}
use Rattle.std.specs.Io.KnownBytes.{Appends}
use lib.Seq.{take-add}
use Rattle.streams.specs.Moves.{count_of}
use Rattle.streams.specs.MovesLaws.{goes_on_by}
use Rattle.streams.proofs.output.write_all.Goals as goal

more : (done n : ℕ) (text : List ℕ) {done' : ℕ} → done' ≡ done + n → take done text ++ take n (take (length text - done) (drop done text)) ≡ take done' text
more done n text e = ap (λ s. take done text ++ take n s) (take_rest text done) ∙ sym (take-add done n text) ∙ ap (λ k. take k text) (sym e)

pub loop-done-preserved : goal.loop-done-preserved
loop-done-preserved g c =
    let m = c.write_on-moved.result in
    let done = c.loop-done.done in
    let went = goes_on_by m done c.loop-done.left c.next_step.ensures c.in-Continue.is in
    let written = Appends-trans _ _ _ _ _ c.loop-done.invariant.1 c.write_on-moved.ensures.bytes in
    (search rules, subst (Appends _ _) (more done (count_of m) c.args.text.now went) written)
