-- What a turn reads stands behind what was read before.
use Rattle.std.proofs.Common.{◌≡◌, ◌+◌, ◌≤◌, ℕ, List, ◌++◌, length, take, drop, sym, ap, ◌∙◌, subst, le_refl, drop_at, length-take-le, arith, rules}
use Rattle.std.proofs.lemmas.Slice.{take-put_mid_below}
use Rattle.std.proofs.KnownBytes.{Consumes-trans}
use Rattle.std.specs.Io.KnownBytes.{Consumes}
use borrow.Rule.Slice.PartMut.{put_mid, post_of}
use lib.Seq.{take-add, take-append-le}
use Rattle.streams.specs.Moves.{count_of}
use Rattle.streams.specs.MovesLaws.{goes_on_by, count_within}
use Rattle.streams.proofs.input.read_all.Goals as goal

more : (done room n : ℕ) (buffer part : List ℕ) {done' : ℕ} → done ≤ length buffer → n ≤ length part → done' ≡ done + n
    → take done buffer ++ take n part ≡ take done' (put_mid done room buffer part)
more done room n buffer part within fits e =
    let after = post_of done room buffer in
    let front : take done (put_mid done room buffer part) ≡ take done buffer = take-put_mid_below _ _ _ _ _ (le_refl _) within in
    let behind = drop_at (take done buffer) (part ++ after) done (length-take-le done buffer within) in
    sym (ap (λ k. take k (put_mid done room buffer part)) e ∙ take-add done n (put_mid done room buffer part) ∙ ap (λ s. s ++ take n (drop done (put_mid done room buffer part))) front
    ∙ ap (λ s. take done buffer ++ take n s) behind ∙ ap (λ s. take done buffer ++ s) (take-append-le n part after fits))

pub loop-done-preserved : goal.loop-done-preserved
loop-done-preserved g c =
    let m = c.read_on-moved.result in
    let done = c.loop-done.done in
    let went = goes_on_by m done c.loop-done.left c.next_step.ensures c.in-Continue.is in
    let fits : count_of m ≤ length c.read_on-moved.new.room = omega (arith, count_within m c.read_on-moved.ensures.within) in
    let read = Consumes-trans _ _ _ _ _ c.loop-done.invariant.2 c.read_on-moved.ensures.bytes in
    (search rules, search rules, subst (Consumes _ _) (more done _ (count_of m) c.loop-done.buffer c.read_on-moved.new.room c.loop-done.invariant.0 fits went) read)
