-- `map_checkpoint::checkpoint` meets its contract: a law for each way out. Assumes nothing.
use mathlib.Core.Path.{sym, ◌∙◌}
use Rattle.std.specs.Prelude.{None}
use Rattle.answer.specs.declared.Refusal.TheVariants.{Held}
use Rattle.slot.specs.PlaceLaws.{holds_slots}
use Rattle.versions.specs.Versions.{columns}
use Rattle.map_store.specs.Meaning.{checkpoint_refusal}
use Rattle.map_store.specs.Shape.{meaning}
use Rattle.map_store.specs.Tests.{say, checkpoint_held, checkpoint_done}
use Rattle.map_checkpoint.specs.CheckpointLaws.{checkpoint_turned_down, checkpoint_carried_out}
use Rattle.map_checkpoint.proofs.checkpoint.Goals as goal

pub returns-then-holds : goal.returns-then-holds
returns-then-holds c =
    let a = c.args in
    let cs = columns a.keys.now a.times.now a.values.now a.marks.now in
    let m = meaning a.h cs in
    checkpoint_turned_down a.t a.h cs (sym c.shaped.ensures.value ∙ c.if-not-shaped.false) _
    Held c.refused-then-holds.ensures
    (say 9 (checkpoint_refusal a.t m) None
    (checkpoint_held m a.t c.if-t-h.false c.if-h-t.false _ (c.holds.ensures ∙ sym (holds_slots a.h.slots a.t)) c.if-holds.true))

pub returns : goal.returns
returns c =
    let a = c.args in
    let cs = columns a.keys.now a.times.now a.values.now a.marks.now in
    let m = meaning a.h cs in
    checkpoint_carried_out a.t a.h cs (sym c.shaped.ensures.value ∙ c.if-not-shaped.false) _ _
    (say 0 (checkpoint_refusal a.t m) None
    (checkpoint_done m a.t c.if-t-h.false c.if-h-t.false _ (c.holds.ensures ∙ sym (holds_slots a.h.slots a.t)) c.if-holds.false))
    c.keep_from-used.ensures
