-- A store that is made of a head and cells means what they mean, and what is decided on it is what the call answers. Assumes nothing.
use Rattle.std.specs.Prelude.{◌≡◌, List, ℕ, Result, Ok, Err, MatchResult, length}
use Rattle.std.proofs.Common.{ap, ◌∙◌, subst}
use Rattle.rules.specs.Columns.{first_rows}
use Rattle.rules.specs.Value.{Value}
use Rattle.rules.specs.Calls.{Store, Call}
use Rattle.record.specs.Bytes.{records_in}
use Rattle.answer.specs.declared.Refusal.{Refusal}
use Rattle.answer.specs.Reply.{Reply, of_result}
use Rattle.journal_store.specs.declared.Head.{Head}
use Rattle.journal_store.specs.declared.store.Store.{Store as Lent}
use Rattle.journal_store.specs.Shape.{meaning, room_of}
use Rattle.journal_store.specs.CallContracts.{Decided, Told, shaped_reply}
use Rattle.journal_store.specs.Lent.{meant, room_in, MadeOf, Opened}
use Rattle.journal_store.specs.Laws.{told_bad, told_good}

module _ {h : Head} {keys values j : List ℕ} {l : Lent} (w : MadeOf h keys values j l) where
  pub made_meant : meant l ≡ meaning h keys values j
  made_meant =
      λ i.
      record {
        low = w.low i;
        floor = w.floor i;
        base = first_rows (w.rows i) (w.keys_column i) (w.values_column i);
        records = records_in (w.used i) (w.cells i);
      }

  pub made_room : room_in l ≡ room_of (length j)
  made_room = ap (λ (xs : List ℕ). room_of (length xs)) w.cells

module _ (h : Head) (keys values j : List ℕ) {A : Type 0} (given : A → Value) where
  -- a call that writes a record
  pub told_by : (c : Call) (r : Result Lent Refusal) (a : Result A Refusal) → Opened h keys values j r
      → MatchResult r (λ l. Decided c (room_in l) (meant l) (of_result given a)) (λ e. a ≡ Err e) → Told c h keys values j (of_result given a)
  told_by c (Ok l) a w d =
      told_good w.shaped
      (subst (λ (s : Store). Decided c (room_of (length j)) s (of_result given a)) (made_meant w)
      (subst (λ (n : ℕ). Decided c n (meant l) (of_result given a)) (made_room w) d))
  told_by c (Err e) a w d = rw (d, w.refusal) (told_bad w.shaped)

  -- a call that answers alone
  pub replied_by : (decided : Store → Reply) (r : Result Lent Refusal) (a : Result A Refusal) → Opened h keys values j r
      → MatchResult r (λ l. of_result given a ≡ decided (meant l)) (λ e. a ≡ Err e) → of_result given a ≡ shaped_reply h keys values j decided
  replied_by decided (Ok l) a w d = rw w.shaped (d ∙ ap decided (made_meant w))
  replied_by decided (Err e) a w d = rw (d, w.refusal, w.shaped)
