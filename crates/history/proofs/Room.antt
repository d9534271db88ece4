-- Rule 3.11: with the same lent room throughout, there is always a free record for each running transaction. Assumes nothing.
use Rattle.std.specs.Prelude.{◌≡◌, refl, false, List, [], ◌∷◌, ℕ, drop}
use Rattle.std.proofs.Common.{sym, ◌∙◌, arith, length-drop}
use Rattle.rules.specs.declared.Record.{Record}
use Rattle.rules.specs.Transactions.{runs, running}
use Rattle.rules.specs.Recovery.{done, survivors}
use Rattle.rules.specs.Calls.{checkpoint_refusal, checkpointed}
use Rattle.rules.specs.Bools.{not_both}
use Rattle.rules.proofs.RoomLaws.{Roomy}
use Rattle.compact.specs.Laws.{length_kept, length_only}
use Rattle.history.specs.History.{Checkpointed}
use Rattle.history.proofs.Course.{Course, lose, recovered}
use Rattle.rules.proofs.KeptLaws.{numbers_kept, kept_all}
use Rattle.history.proofs.Recovered.{survivors_none}
use Rattle.history.proofs.Allowed.{allowed}
use Rattle.history.proofs.Tied.{Tied, now, alike_checkpointed}

-- none is kept
none_kept : (ns : List ℕ) → numbers_kept 0 (λ n. false) ns ≡ []
none_kept [] = refl
none_kept (n ∷ ns) = none_kept ns

-- where no number runs, none is listed
pub running_none : (rs : List Record) → ((n : ℕ) → runs n rs ≡ false) → running rs ≡ []
running_none rs h = sym (kept_all 0 (λ n. false) rs rs (λ n x. x) (λ n u. not_both (runs n rs) u (h n))) ∙ none_kept (running rs)

module _ (room : ℕ) (y : Course) (h : Tied y) (k : Roomy room y.store) where
  -- a checkpoint leaves the same transactions running, and no more records
  pub room_checkpoint : (T : ℕ) → checkpoint_refusal T y.store ≡ 0 → Roomy room (checkpointed T y.store)
  room_checkpoint T ok =
      let m = alike_checkpointed y h (allowed y.store (Checkpointed T) ok) in
      rw (m.runnings, ← (now y h).runnings) (omega (arith, k, length_kept T y.store.records y.store.records))

  -- a restart leaves nothing running
  pub room_restart : (x : ℕ) → Roomy room (recovered (lose x y.store))
  room_restart x =
      let a : List Record = drop x y.store.records in
      rw (running_none (survivors a) (survivors_none a)) (omega (arith, length_only (done a) a, length-drop x y.store.records))
