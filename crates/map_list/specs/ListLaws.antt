-- How the parts of a list make its contract: a law for each way out. Assumes nothing.
use Rattle.std.specs.Prelude.{◌≡◌, refl, Bool, true, false, List, ℕ, ◌≤◌, eqb, length, Some}
use Rattle.std.proofs.Common.{sym}
use Rattle.answer.specs.declared.Refusal.{Refusal}
use Rattle.answer.specs.declared.Refusal.TheVariants.{BadShape}
use Rattle.answer.specs.Reply.{Reply, refused, told}
use Rattle.answer.specs.Laws.{refused_some, after_refused}
use Rattle.versions.specs.Versions.{Columns, versions_of, list_at}
use Rattle.map_store.specs.declared.MapHead.{MapHead}
use Rattle.map_store.specs.Meaning.{list_answer}
use Rattle.map_store.specs.Shape.{lengths, is_shaped, meaning}
use Rattle.map_store.specs.CallContracts.{list_number, ListedAt}
use Rattle.map_store.specs.Laws.{number_bad, number_good, replied, changed}
use Rattle.map_store.specs.Tests.{say, list_timely}
use Rattle.map_list.specs.List.{FilledIf, ListedIn}

module _ (t : ℕ) (h : MapHead) (cs : Columns) (oks ovs : List ℕ) where
  -- columns of a list that are not paired, or a store of bad shape
  list_turned : list_number t h cs oks ovs ≡ 1 → ListedAt t h cs oks ovs (refused BadShape) oks ovs
  list_turned q =
      record {
        reply = say 1 (list_number t h cs oks ovs) _ q;
        keys = after_refused BadShape (list_number t h cs oks ovs) _ oks q;
        values = after_refused BadShape (list_number t h cs oks ovs) _ ovs q;
      }

  pub list_unpaired : eqb (length oks) (length ovs) ≡ false → ListedAt t h cs oks ovs (refused BadShape) oks ovs
  list_unpaired e = list_turned (rw e)

  module _ (paired : eqb (length oks) (length ovs) ≡ true) where
    pub list_bad_shape : is_shaped h (lengths cs) ≡ false → ListedAt t h cs oks ovs (refused BadShape) oks ovs
    list_bad_shape e = list_turned (rw paired (number_bad h cs (list_answer (length oks) t) e))

    module _ (shaped : is_shaped h (lengths cs) ≡ true) (a : Reply)
        (d : a ≡ told (list_answer (length oks) t (meaning h cs)) (Some (length (list_at (versions_of h.used cs) t))))
        (accepted : Bool) (y : accepted ≡ eqb a.number 0) where
      pub listed : (oks' ovs' : List ℕ) → FilledIf (list_at (versions_of h.used cs) t) oks ovs accepted oks' ovs'
          → ListedAt t h cs oks ovs a oks' ovs'
      listed oks' ovs' p =
          let q : list_number t h cs oks ovs ≡ list_answer (length oks) t (meaning h cs) =
          rw paired (number_good h cs (list_answer (length oks) t) shaped) in
          record {
            reply = replied _ _ _ q a d;
            keys = changed _ _ _ q a d accepted y _ _ oks' p.keys;
            values = changed _ _ _ q a d accepted y _ _ ovs' p.values;
          }

    module _ (shaped : is_shaped h (lengths cs) ≡ true) where
      -- a time that is refused changes nothing
      pub list_untimely : (x : Refusal) → refused x ≡ told (list_answer (length oks) t (meaning h cs)) (Some (length (list_at (versions_of h.used cs) t)))
          → ListedAt t h cs oks ovs (refused x) oks ovs
      list_untimely x d = listed shaped (refused x) d false (sym (refused_some x)) oks ovs (record { keys = refl; values = refl })

      -- where the time is good, what was told and written is the contract
      pub list_timed : h.low ≤ t → t ≤ h.last → (a : Reply) (oks' ovs' : List ℕ)
          → ListedIn (list_at (versions_of h.used cs) t) oks ovs a oks' ovs' → ListedAt t h cs oks ovs a oks' ovs'
      list_timed b c a oks' ovs' w =
          listed shaped a (rw (list_timely (meaning h cs) t b c (length oks)) w.reply) (eqb a.number 0) refl oks' ovs' w.written
