-- How a call's parts make its contract: what was decided on the meaning, then done to the cells if it was accepted. Assumes nothing.
use Rattle.std.specs.Prelude.{◌≡◌, refl, Bool, true, false, cond, ℕ, ◌<◌, eqb, length, None, Option, Some, Err, Ok}
use Rattle.std.proofs.Common.{sym, ap, ◌∙◌, eqb-true}
use Rattle.rules.specs.Limits.{numbers_end}
use Rattle.rules.specs.Value.{Value}
use Rattle.rules.specs.Calls.{Call, Begin}
use Rattle.answer.specs.declared.Refusal.{Refusal}
use Rattle.answer.specs.declared.Refusal.TheVariants.{BadShape}
use Rattle.answer.specs.declared.Outcome.{Outcome}
use Rattle.answer.specs.Reply.{Reply, refused, accepted, of_done, told, after}
use Rattle.answer.specs.Laws.{refused_some, after_refused}
use Rattle.slot.specs.declared.Slots.{Slots}
use Rattle.slot.specs.Slots.{slot_at, slot_of, has_number}
use Rattle.slot.specs.Formed.{Formed, Rowed}
use Rattle.slot.specs.Laws.{first_slot_lem}
use Rattle.slot.specs.Places.{free, place_of, place_in, places_of, taken_by}
use Rattle.slot.specs.PlaceLaws.{place_slot}
use Rattle.versions.specs.Versions.{Columns}
use Rattle.map_store.specs.declared.MapHead.{MapHead}
use Rattle.map_store.specs.Meaning.{MapStore, map_answer, gives}
use Rattle.map_store.specs.Shape.{lengths, is_shaped, room_of, meaning}
use Rattle.map_store.specs.Heads.{head_after}
use Rattle.map_store.specs.CallContracts.{shaped_number, number, Decided, Answered}
use Rattle.map_store.specs.Tests.{say, begin_numbered}

-- the slot that was found is the place of the transaction, and its rows are in order
module _ (h : Slots) (n : ℕ) {f : Option ℕ} (e : f ≡ slot_of h n) where
  pub place_none : f ≡ None → place_of n (places_of h) ≡ free
  place_none g = place_slot h n ∙ ap (place_in h) (sym e ∙ g)

  module _ {i : ℕ} (g : f ≡ Some i) where
    pub place_found : place_of n (places_of h) ≡ taken_by (slot_at h i)
    place_found = place_slot h n ∙ ap (place_in h) (sym e ∙ g)

    pub rowed_found : Formed h → Rowed (slot_at h i)
    rowed_found w = w.rowed i (first_slot_lem (has_number n) h (sym e ∙ g)).occupied

module _ (h : MapHead) (cs : Columns) (f : MapStore → ℕ) where
  pub number_bad : is_shaped h (lengths cs) ≡ false → shaped_number h cs f ≡ 1
  number_bad e = ap (λ (b : Bool). cond b (f (meaning h cs)) 1) e

  pub number_good : is_shaped h (lengths cs) ≡ true → shaped_number h cs f ≡ f (meaning h cs)
  number_good e = ap (λ (b : Bool). cond b (f (meaning h cs)) 1) e

-- the number of what was decided
pub decided_number : {c : Call} {room : ℕ} {m : MapStore} {a : Reply} → Decided c room m a → a.number ≡ map_answer room c m
decided_number d = ap (λ (r : Reply). r.number) d.reply

-- the number on the cells is that on the meaning, for which a reply was decided
module _ (cells means : ℕ) (v : Value) (e : cells ≡ means) (a : Reply) (d : a ≡ told means v) where
  pub replied : a ≡ told cells v
  replied = d ∙ say means cells v e

  module _ (accepted : Bool) (y : accepted ≡ eqb a.number 0) where
    pub is_accepted : accepted ≡ true → means ≡ 0
    is_accepted f = eqb-true means 0 (sym (ap (λ (r : Reply). eqb r.number 0) d) ∙ sym y ∙ f)

    pub changed : {A : Type 0} (new old x : A) → x ≡ cond accepted new old → x ≡ after cells new old
    changed new old x p =
        p ∙ ap (λ (b : Bool). cond b new old) (y ∙ ap (λ (r : Reply). eqb r.number 0) d ∙ ap (λ (n : ℕ). eqb n 0) (sym e))

module _ {c : Call} {h : MapHead} {cs : Columns} where
  -- a store of bad shape: refused, and nothing changes
  pub bad_shape : is_shaped h (lengths cs) ≡ false → Answered c h cs (refused BadShape) h
  bad_shape e =
      let q = number_bad h cs (map_answer (room_of (length cs.keys)) c) e in
      record {
        reply = say 1 (number c h cs) (gives c (meaning h cs)) q;
        headed = after_refused BadShape (number c h cs) (head_after c h) h q;
      }

  module _ (shaped : is_shaped h (lengths cs) ≡ true) where
    -- what was decided and done is what the call answers
    pub answered : {a : Reply} → Decided c (room_of (length cs.keys)) (meaning h cs) a → {accepted : Bool} → accepted ≡ eqb a.number 0
        → {head : MapHead} → head ≡ cond accepted (head_after c h) h → Answered c h cs a head
    answered {a} d {accepted} y {head} p =
        let q = number_good h cs (map_answer (room_of (length cs.keys)) c) shaped in
        record {
          reply = replied _ _ (gives c (meaning h cs)) q a d.reply;
          headed = changed _ _ (gives c (meaning h cs)) q a d.reply accepted y _ _ head p;
        }

    -- a call that is refused changes nothing
    pub turned_down : (o : Outcome MapHead Unit) (x : Refusal) → (o.head ≡ h) × (o.answer ≡ Err x)
        → Decided c (room_of (length cs.keys)) (meaning h cs) (refused x) → Answered c h cs (of_done o.answer) o.head
    turned_down o x r d = rw (r.0, r.1) (answered d (sym (refused_some x)) refl)

    -- one that is accepted leaves the head that it is to leave
    pub carried_out : (o : Outcome MapHead Unit) (head : MapHead) → (o.head ≡ head) × (o.answer ≡ Ok tt)
        → Decided c (room_of (length cs.keys)) (meaning h cs) (accepted None) → head ≡ head_after c h
        → Answered c h cs (of_done o.answer) o.head
    carried_out o head r d e = rw (r.0, r.1) (answered d {accepted = true} refl e)

-- an accepted begin has a number to give
pub begin_next : {t room : ℕ} {m : MapStore} {a : Reply} → Decided (Begin t) room m a → {accepted : Bool} → accepted ≡ eqb a.number 0
    → accepted ≡ true → m.next < numbers_end
begin_next {t} {room} {m} {a} d {accepted} y f = begin_numbered m t (is_accepted _ _ (gives (Begin t) m) refl a d.reply accepted y f)
