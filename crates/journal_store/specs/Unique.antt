-- No second answer satisfies the contract of a public function of the journal store: not another answer, head or cell. Assumes nothing.
use Rattle.std.specs.Prelude.{◌≡◌, Bool, true, false, List, ℕ, Result, Ok, Err, MatchResult, IsOkAnd}
use Rattle.std.proofs.Common.{sym, ap, ◌∙◌}
use Rattle.rules.specs.declared.Effect.{Effect}
use Rattle.rules.specs.Calls.{Store, Call, Begin, Update, Abort, Commit}
use Rattle.rules.specs.Value.{Value}
use Rattle.answer.specs.declared.Outcome.{Outcome}
use Rattle.answer.specs.declared.Refusal.{Refusal}
use Rattle.answer.specs.Reply.{Reply, of_begun, of_got, of_done, of_listed}
use Rattle.answer.specs.Laws.{begun_only, got_only, done_only, listed_only}
use Rattle.journal_store.specs.declared.Head.{Head}
use Rattle.journal_store.specs.declared.store.Store.{Store as Lent}
use Rattle.journal_store.specs.Shape.{empty_head, is_shaped}
use Rattle.journal_store.specs.Lent.{Opened}
use Rattle.journal_store.specs.CallContracts.{Wrote, shaped_reply, read_decided, lookup_decided, ListedBy, Checkpointed, Recovered}

pub shaped_unique : (h : Head) (keys values bytes : ℕ) (a b : Bool) → a ≡ is_shaped h keys values bytes → b ≡ is_shaped h keys values bytes → a ≡ b
shaped_unique h keys values bytes a b p q = p ∙ sym q

never : {b : Bool} → b ≡ true → b ≡ false → ⊥
never p q = cc

-- Store::new: stores that read alike, or the same refusal
pub record Alike (a b : Lent) : Type 0 where
  pub low : a.low ≡ b.low
  pub floor : a.floor ≡ b.floor
  pub rows : a.base.count ≡ b.base.count
  pub keys_column : a.base.keys.now ≡ b.base.keys.now
  pub values_column : a.base.values.now ≡ b.base.values.now
  pub used : a.records.used ≡ b.records.used
  pub cells : a.records.bytes.now ≡ b.records.bytes.now

pub store_unique : (h : Head) (keys values j : List ℕ) (r s : Result Lent Refusal) → Opened h keys values j r → Opened h keys values j s
    → MatchResult r (λ a. IsOkAnd s (Alike a)) (λ e. s ≡ Err e)
store_unique h keys values j (Ok a) (Ok b) p q =
    record {
      low = p.low ∙ sym q.low;
      floor = p.floor ∙ sym q.floor;
      rows = p.rows ∙ sym q.rows;
      keys_column = p.keys_column ∙ sym q.keys_column;
      values_column = p.values_column ∙ sym q.values_column;
      used = p.used ∙ sym q.used;
      cells = p.cells ∙ sym q.cells;
    }
store_unique h keys values j (Ok a) (Err e) p q = absurd (never p.shaped q.shaped)
store_unique h keys values j (Err e) (Ok b) p q = absurd (never q.shaped p.shaped)
store_unique h keys values j (Err e) (Err d) p q = ap (λ (x : Refusal). Err x) (q.refusal ∙ sym p.refusal)

pub empty_unique : (a b : Head) → a ≡ empty_head → b ≡ empty_head → a ≡ b
empty_unique a b p q = p ∙ sym q

same_outcome : {T : Type 0} (a b : Outcome Head T) → a.head ≡ b.head → a.answer ≡ b.answer → a ≡ b
same_outcome a b e f = λ i. record { head = e i; answer = f i }

module _ (h : Head) (keys values j x y : List ℕ) where
  pub begin_unique : (t : ℕ) (a b : Outcome Head ℕ) → Wrote (Begin t) h keys values j (of_begun a.answer) a.head x
      → Wrote (Begin t) h keys values j (of_begun b.answer) b.head y → (a ≡ b) × (x ≡ y)
  begin_unique t a b p q = (
    same_outcome a b (p.headed ∙ sym q.headed) (begun_only a.answer b.answer (p.reply ∙ sym q.reply)),
    p.cells ∙ sym q.cells,
  )

  wrote_unique : (c : Call) (a b : Outcome Head Unit) → Wrote c h keys values j (of_done a.answer) a.head x
      → Wrote c h keys values j (of_done b.answer) b.head y → (a ≡ b) × (x ≡ y)
  wrote_unique c a b p q = (
    same_outcome a b (p.headed ∙ sym q.headed) (done_only a.answer b.answer (p.reply ∙ sym q.reply)),
    p.cells ∙ sym q.cells,
  )

  pub update_unique : (n k : ℕ) (e : Effect) (a b : Outcome Head Unit) → Wrote (Update n k e) h keys values j (of_done a.answer) a.head x
      → Wrote (Update n k e) h keys values j (of_done b.answer) b.head y → (a ≡ b) × (x ≡ y)
  update_unique n k e a b p q = wrote_unique (Update n k e) a b p q

  pub abort_unique : (n : ℕ) (a b : Outcome Head Unit) → Wrote (Abort n) h keys values j (of_done a.answer) a.head x
      → Wrote (Abort n) h keys values j (of_done b.answer) b.head y → (a ≡ b) × (x ≡ y)
  abort_unique n a b p q = wrote_unique (Abort n) a b p q

  pub commit_unique : (n t : ℕ) (a b : Outcome Head Unit) → Wrote (Commit n t) h keys values j (of_done a.answer) a.head x
      → Wrote (Commit n t) h keys values j (of_done b.answer) b.head y → (a ≡ b) × (x ≡ y)
  commit_unique n t a b p q = wrote_unique (Commit n t) a b p q

  got_unique : (decided : Store → Reply) (a b : Result Value Refusal) → of_got a ≡ shaped_reply h keys values j decided → of_got b ≡ shaped_reply h keys values j decided → a ≡ b
  got_unique decided a b p q = got_only a b (p ∙ sym q)

  pub read_unique : (n k : ℕ) (a b : Result Value Refusal) → of_got a ≡ shaped_reply h keys values j (read_decided n k)
      → of_got b ≡ shaped_reply h keys values j (read_decided n k) → a ≡ b
  read_unique n k a b p q = got_unique (read_decided n k) a b p q

  pub lookup_unique : (k t : ℕ) (a b : Result Value Refusal) → of_got a ≡ shaped_reply h keys values j (lookup_decided k t)
      → of_got b ≡ shaped_reply h keys values j (lookup_decided k t) → a ≡ b
  lookup_unique k t a b p q = got_unique (lookup_decided k t) a b p q

  pub recover_unique : (survived : ℕ) (a b : Outcome Head Unit) → Recovered h keys values j survived (of_done a.answer) a.head x
      → Recovered h keys values j survived (of_done b.answer) b.head y → (a ≡ b) × (x ≡ y)
  recover_unique survived a b p q = (
    same_outcome a b (p.headed ∙ sym q.headed) (done_only a.answer b.answer (p.reply ∙ sym q.reply)),
    p.cells ∙ sym q.cells,
  )

module _ (h : Head) (keys values j : List ℕ) (t : ℕ) where
  pub list_unique : (listed contents x y x' y' : List ℕ) (a b : Result ℕ Refusal) → ListedBy h keys values j t listed contents (of_listed a) x y
      → ListedBy h keys values j t listed contents (of_listed b) x' y' → (a ≡ b) × (x ≡ x') × (y ≡ y')
  list_unique listed contents x y x' y' a b p q = (
    listed_only a b (p.reply ∙ sym q.reply),
    p.keys_column ∙ sym q.keys_column,
    p.values_column ∙ sym q.values_column,
  )

  pub checkpoint_unique : (k v x k' v' x' : List ℕ) (a b : Outcome Head Unit) → Checkpointed t h keys values j (of_done a.answer) a.head k v x
      → Checkpointed t h keys values j (of_done b.answer) b.head k' v' x' → (a ≡ b) × (k ≡ k') × (v ≡ v') × (x ≡ x')
  checkpoint_unique k v x k' v' x' a b p q = (
    same_outcome a b (p.headed ∙ sym q.headed) (done_only a.answer b.answer (p.reply ∙ sym q.reply)),
    p.keys_column ∙ sym q.keys_column,
    p.values_column ∙ sym q.values_column,
    p.cells ∙ sym q.cells,
  )
