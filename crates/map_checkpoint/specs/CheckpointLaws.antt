-- How the parts of a checkpoint make its contract: a law for each way out. Assumes nothing.
use Rattle.std.specs.Prelude.{◌≡◌, refl, Bool, true, false, ℕ, eqb, None, Err}
use Rattle.std.proofs.Common.{sym}
use Rattle.answer.specs.declared.Refusal.{Refusal}
use Rattle.answer.specs.declared.Refusal.TheVariants.{BadShape}
use Rattle.answer.specs.declared.Outcome.{Outcome}
use Rattle.answer.specs.Reply.{Reply, refused, accepted, of_done, told}
use Rattle.answer.specs.Laws.{refused_some, after_refused}
use Rattle.versions.specs.Versions.{Columns}
use Rattle.versions.specs.Columns.{Kept}
use Rattle.map_store.specs.declared.MapHead.{MapHead}
use Rattle.map_store.specs.Meaning.{checkpoint_refusal}
use Rattle.map_store.specs.Shape.{lengths, is_shaped, meaning}
use Rattle.map_store.specs.CallContracts.{checkpoint_number, Checkpointed}
use Rattle.map_store.specs.Laws.{number_bad, number_good, replied, changed}
use Rattle.map_store.specs.Tests.{say}
use Rattle.map_checkpoint.specs.Checkpoint.{Thinned}

module _ (t : ℕ) (h : MapHead) (cs : Columns) where
  pub checkpoint_bad_shape : is_shaped h (lengths cs) ≡ false → Checkpointed t h cs (refused BadShape) h cs
  checkpoint_bad_shape e =
      let q = number_bad h cs (checkpoint_refusal t) e in
      record {
        reply = say 1 (checkpoint_number t h cs) None q;
        headed = after_refused BadShape (checkpoint_number t h cs) _ h q;
        cells = after_refused BadShape (checkpoint_number t h cs) _ cs q;
      }

  pub checkpointed : is_shaped h (lengths cs) ≡ true → (a : Reply) → a ≡ told (checkpoint_refusal t (meaning h cs)) None
      → (accepted : Bool) → accepted ≡ eqb a.number 0 → (head : MapHead) (cs' : Columns)
      → Thinned t h cs accepted head cs' → Checkpointed t h cs a head cs'
  checkpointed shaped a d accepted y head cs' p =
      let q = number_good h cs (checkpoint_refusal t) shaped in
      record {
        reply = replied _ _ None q a d;
        headed = changed _ _ None q a d accepted y _ _ head p.headed;
        cells = changed _ _ None q a d accepted y _ _ cs' p.cells;
      }

  module _ (shaped : is_shaped h (lengths cs) ≡ true) where
    pub checkpoint_turned_down : (o : Outcome MapHead Unit) (x : Refusal) → (o.head ≡ h) × (o.answer ≡ Err x)
        → refused x ≡ told (checkpoint_refusal t (meaning h cs)) None → Checkpointed t h cs (of_done o.answer) o.head cs
    checkpoint_turned_down o x r d =
        rw (r.0, r.1)
        (checkpointed shaped (refused x) d false (sym (refused_some x)) h cs (record { headed = refl; cells = refl }))

    pub checkpoint_carried_out : (cs' : Columns) (r : ℕ) → accepted None ≡ told (checkpoint_refusal t (meaning h cs)) None
        → Kept t h.used cs cs' r
        → Checkpointed t h cs (accepted None) (record { low = t; last = h.last; next = h.next; used = r; slots = h.slots }) cs'
    checkpoint_carried_out cs' r d w =
        checkpointed shaped (accepted None) d true refl _ cs' (record { headed = rw w.count; cells = w.cells })
