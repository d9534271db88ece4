-- No second answer satisfies the contract of a public function of the map store: not another answer, head or cell. Assumes nothing.
use Rattle.std.specs.Prelude.{◌≡◌, Bool, List, ℕ, Result, Err}
use Rattle.std.proofs.Common.{sym, ap₂, ◌∙◌}
use Rattle.rules.specs.Calls.{Call}
use Rattle.answer.specs.declared.Refusal.{Refusal}
use Rattle.answer.specs.declared.Outcome.{Outcome}
use Rattle.rules.specs.Value.{Value}
use Rattle.answer.specs.Reply.{of_begun, of_done, of_got, of_listed}
use Rattle.answer.specs.Laws.{begun_only, done_only, got_only, listed_only}
use Rattle.versions.specs.Versions.{Columns}
use Rattle.map_store.specs.declared.MapHead.{MapHead}
use Rattle.map_store.specs.Shape.{empty_head, Lengths, is_shaped}
use Rattle.map_store.specs.CallContracts.{Answered, Committed, read_reply, lookup_reply, ListedAt, Checkpointed}

pub shaped_unique : (h : MapHead) (l : Lengths) (a b : Bool) → a ≡ is_shaped h l → b ≡ is_shaped h l → a ≡ b
shaped_unique h l a b p q = p ∙ sym q

pub empty_unique : {a b : MapHead} → a ≡ empty_head → b ≡ empty_head → a ≡ b
empty_unique p q = p ∙ sym q

-- what is returned is its head and its answer
outcome : (r s : Outcome MapHead Unit) → r.head ≡ s.head → r.answer ≡ s.answer → r ≡ s
outcome r s p q = ap₂ (λ (h : MapHead) (a : Result Unit Refusal). record { head = h; answer = a }) p q

pub refused_unique : {h : MapHead} {why : Refusal} (r s : Outcome MapHead Unit) → (r.head ≡ h) × (r.answer ≡ Err why)
    → (s.head ≡ h) × (s.answer ≡ Err why) → r ≡ s
refused_unique r s p q = outcome r s (p.0 ∙ sym q.0) (p.1 ∙ sym q.1)

module _ (h : MapHead) (cs : Columns) where
  pub begin_unique : {c : Call} (r s : Outcome MapHead ℕ) → Answered c h cs (of_begun r.answer) r.head
      → Answered c h cs (of_begun s.answer) s.head → r ≡ s
  begin_unique r s p q =
      ap₂ (λ (x : MapHead) (a : Result ℕ Refusal). record { head = x; answer = a }) (p.headed ∙ sym q.headed)
      (begun_only r.answer s.answer (p.reply ∙ sym q.reply))

  -- update and abort
  pub call_unique : {c : Call} (r s : Outcome MapHead Unit) → Answered c h cs (of_done r.answer) r.head
      → Answered c h cs (of_done s.answer) s.head → r ≡ s
  call_unique r s p q = outcome r s (p.headed ∙ sym q.headed) (done_only r.answer s.answer (p.reply ∙ sym q.reply))

  pub commit_unique : {n t : ℕ} {cs₁ cs₂ : Columns} (r s : Outcome MapHead Unit)
      → Committed n t h cs (of_done r.answer) r.head cs₁ → Committed n t h cs (of_done s.answer) s.head cs₂
      → (r ≡ s) × (cs₁ ≡ cs₂)
  commit_unique r s p q = (
    call_unique r s p.answered q.answered,
    p.cells ∙ sym q.cells,
  )

  pub read_unique : (n k : ℕ) (a b : Result Value Refusal) → of_got a ≡ read_reply n k h cs → of_got b ≡ read_reply n k h cs → a ≡ b
  read_unique n k a b p q = got_only a b (p ∙ sym q)

  pub lookup_unique : (k t : ℕ) (a b : Result Value Refusal) → of_got a ≡ lookup_reply k t h cs → of_got b ≡ lookup_reply k t h cs → a ≡ b
  lookup_unique k t a b p q = got_only a b (p ∙ sym q)

  pub list_unique : {t : ℕ} {oks ovs oks₁ ovs₁ oks₂ ovs₂ : List ℕ} (a b : Result ℕ Refusal) → ListedAt t h cs oks ovs (of_listed a) oks₁ ovs₁
      → ListedAt t h cs oks ovs (of_listed b) oks₂ ovs₂ → (a ≡ b) × (oks₁ ≡ oks₂) × (ovs₁ ≡ ovs₂)
  list_unique a b p q = (listed_only a b (p.reply ∙ sym q.reply), p.keys ∙ sym q.keys, p.values ∙ sym q.values)

  pub checkpoint_unique : {t : ℕ} {cs₁ cs₂ : Columns} (r s : Outcome MapHead Unit)
      → Checkpointed t h cs (of_done r.answer) r.head cs₁ → Checkpointed t h cs (of_done s.answer) s.head cs₂
      → (r ≡ s) × (cs₁ ≡ cs₂)
  checkpoint_unique r s p q = (
    outcome r s (p.headed ∙ sym q.headed) (done_only r.answer s.answer (p.reply ∙ sym q.reply)),
    p.cells ∙ sym q.cells,
  )
