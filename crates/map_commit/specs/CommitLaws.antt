-- How the parts of a commit make its contract: a law for each way out. Assumes nothing.
use Rattle.std.specs.Prelude.{◌≡◌, refl, Bool, true, false, ℕ, ◌+◌, ◌≤◌, eqb, length, None, Err}
use Rattle.std.proofs.Common.{sym, arith}
use Rattle.std.proofs.Math.Nat.{min-le_right}
use Rattle.rules.specs.Limits.{most_versions}
use Rattle.rules.specs.Calls.{Commit}
use Rattle.answer.specs.declared.Refusal.{Refusal}
use Rattle.answer.specs.declared.Refusal.TheVariants.{BadShape}
use Rattle.answer.specs.declared.Outcome.{Outcome}
use Rattle.answer.specs.Reply.{Reply, refused, accepted, of_done}
use Rattle.answer.specs.Laws.{refused_some, after_refused}
use Rattle.versions.specs.Versions.{Columns}
use Rattle.versions.specs.Columns.{Spans}
use Rattle.map_store.specs.declared.MapHead.{MapHead}
use Rattle.map_store.specs.Meaning.{map_answer}
use Rattle.map_store.specs.Shape.{lengths, is_shaped, Shaped, room_of, meaning}
use Rattle.map_store.specs.CallContracts.{number, Decided, Committed}
use Rattle.map_store.specs.Laws.{number_bad, number_good, changed, bad_shape, answered}
use Rattle.map_commit.specs.Commit.{Put}

-- rows for which there is room behind the used ones are lent
pub room_lent : (h : MapHead) (cs : Columns) → Shaped h (lengths cs) → (rows : ℕ) → h.used + rows ≤ room_of (length cs.keys)
    → Spans (h.used + rows) cs
room_lent h cs w rows l =
    let r = min-le_right most_versions (length cs.keys) in
    record { keys = omega arith; times = omega (arith, w.times); values = omega (arith, w.values); marks = omega (arith, w.marks) }

module _ {n t : ℕ} {h : MapHead} {cs : Columns} where
  pub commit_bad_shape : is_shaped h (lengths cs) ≡ false → Committed n t h cs (refused BadShape) h cs
  commit_bad_shape e =
      record {
        answered = bad_shape e;
        cells = after_refused BadShape (number (Commit n t) h cs) _ cs (number_bad h cs (map_answer (room_of (length cs.keys)) (Commit n t)) e);
      }

  module _ (shaped : is_shaped h (lengths cs) ≡ true) where
    committed : {a : Reply} → Decided (Commit n t) (room_of (length cs.keys)) (meaning h cs) a → {accepted : Bool} → accepted ≡ eqb a.number 0
        → {head : MapHead} {cs' : Columns} → Put n t h cs accepted head cs' → Committed n t h cs a head cs'
    committed {a} d {accepted} y {head} {cs'} p =
        let q = number_good h cs (map_answer (room_of (length cs.keys)) (Commit n t)) shaped in
        record { answered = answered shaped d y p.headed; cells = changed _ _ None q a d.reply accepted y _ _ cs' p.cells }

    pub commit_turned_down : (o : Outcome MapHead Unit) (x : Refusal) → (o.head ≡ h) × (o.answer ≡ Err x)
        → Decided (Commit n t) (room_of (length cs.keys)) (meaning h cs) (refused x) → Committed n t h cs (of_done o.answer) o.head cs
    commit_turned_down o x r d = rw (r.0, r.1) (committed d {accepted = false} (sym (refused_some x)) (record { headed = refl; cells = refl }))

    pub commit_carried_out : {head : MapHead} {cs' : Columns} → Decided (Commit n t) (room_of (length cs.keys)) (meaning h cs) (accepted None)
        → Put n t h cs true head cs' → Committed n t h cs (accepted None) head cs'
    commit_carried_out d p = committed d refl p
