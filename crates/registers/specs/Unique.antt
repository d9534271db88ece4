-- No second answer satisfies the contract of a public function of this crate: not another answer, head or cell. Assumes nothing.
use Rattle.std.specs.Prelude.{◌≡◌, List, ℕ}
use Rattle.std.proofs.Common.{sym, ap, ap₂, ◌∙◌}
use Rattle.rules.specs.declared.Effect.TheVariants.{Assign, Add}
use Rattle.rules.specs.Calls.{Call, Begin, Update, Abort, Commit}
use Rattle.rules.specs.Value.{Value}
use Rattle.answer.specs.declared.Outcome.{Outcome}
use Rattle.answer.specs.declared.shown.Answer.{Answer}
use Rattle.answer.specs.Reply.{Reply, of_result}
use Rattle.answer.specs.Shown.{answer_of}
use Rattle.journal_store.specs.declared.Head.{Head}
use Rattle.journal_store.specs.Shape as journal_shape
use Rattle.journal_store.specs.CallContracts.{Wrote, shaped_reply, read_decided, lookup_decided, ListedBy, Recovered}
use Rattle.journal_store.specs.CallContracts as journal_checkpoint
use Rattle.versions.specs.Versions.{Columns}
use Rattle.map_store.specs.declared.MapHead.{MapHead}
use Rattle.map_store.specs.Shape as map_shape
use Rattle.map_store.specs.CallContracts.{Answered, Committed, read_reply, lookup_reply, ListedAt}
use Rattle.map_store.specs.CallContracts as map_contracts
use Rattle.registers.specs.declared.JournalResult.{JournalResult}
use Rattle.registers.specs.declared.MapResult.{MapResult}
use Rattle.registers.specs.declared.about.Limits.{Limits}
use Rattle.registers.specs.declared.about.Numbers.{Numbers}
use Rattle.registers.specs.Answer.{Answers, Returns}
use Rattle.sample.specs.Sample.{journal_sample, map_sample}
use Rattle.registers.specs.About.{limits, numbers}

-- answers of one reply are one answer
same : {P Q : Reply → Type 0} {a b : Answer} (p : Answers P a) (q : Answers Q b) → p.reply ≡ q.reply → a ≡ b
same p q e = p.shows ∙ ap answer_of e ∙ sym q.shows

-- what is returned is its head and its answer: those of one head and one reply are one
journal_same : {P Q : Reply → Head → Type 0} {a b : JournalResult} (p : Returns P a.head a.answer) (q : Returns Q b.head b.answer) → a.head ≡ b.head
    → p.reply ≡ q.reply → a ≡ b
journal_same p q e f = ap₂ (λ (h : Head) (x : Answer). record { head = h; answer = x }) e (p.shows ∙ ap answer_of f ∙ sym q.shows)

map_same : {P Q : Reply → MapHead → Type 0} {a b : MapResult} (p : Returns P a.head a.answer) (q : Returns Q b.head b.answer) → a.head ≡ b.head
    → p.reply ≡ q.reply → a ≡ b
map_same p q e f = ap₂ (λ (h : MapHead) (x : Answer). record { head = h; answer = x }) e (p.shows ∙ ap answer_of f ∙ sym q.shows)

-- JournalResult::from and MapResult::from, whatever it is that an accepted call gives: the head, and the answer
pub journal_result_unique : {T : Type 0} (given : T → Value) (o : Outcome Head T) (a b : JournalResult)
    → (a.head ≡ o.head) × (a.answer ≡ answer_of (of_result given o.answer)) → (b.head ≡ o.head) × (b.answer ≡ answer_of (of_result given o.answer))
    → a ≡ b
journal_result_unique given o a b p q = ap₂ (λ (h : Head) (x : Answer). record { head = h; answer = x }) (p.0 ∙ sym q.0) (p.1 ∙ sym q.1)

pub map_result_unique : {T : Type 0} (given : T → Value) (o : Outcome MapHead T) (a b : MapResult)
    → (a.head ≡ o.head) × (a.answer ≡ answer_of (of_result given o.answer)) → (b.head ≡ o.head) × (b.answer ≡ answer_of (of_result given o.answer))
    → a ≡ b
map_result_unique given o a b p q = ap₂ (λ (h : MapHead) (x : Answer). record { head = h; answer = x }) (p.0 ∙ sym q.0) (p.1 ∙ sym q.1)

pub journal_empty_unique : (a b : Head) → a ≡ journal_shape.empty_head → b ≡ journal_shape.empty_head → a ≡ b
journal_empty_unique a b p q = p ∙ sym q

module _ (h : Head) (keys values j : List ℕ) where
  -- begin, assign, add, abort and commit: what is returned, and the journal at exit
  abbrev Writes : Call → JournalResult → List ℕ → Type 0
  Writes c a x = Returns (λ r head. Wrote c h keys values j r head x) a.head a.answer

  wrote_unique : (c : Call) (a b : JournalResult) (x y : List ℕ) → Writes c a x → Writes c b y → (a ≡ b) × (x ≡ y)
  wrote_unique c a b x y p q = (
    journal_same p q (p.meets.headed ∙ sym q.meets.headed) (p.meets.reply ∙ sym q.meets.reply),
    p.meets.cells ∙ sym q.meets.cells,
  )

  pub journal_begin_unique : (t : ℕ) (a b : JournalResult) (x y : List ℕ) → Writes (Begin t) a x → Writes (Begin t) b y → (a ≡ b) × (x ≡ y)
  journal_begin_unique t = wrote_unique (Begin t)

  pub journal_assign_unique : (n k v : ℕ) (a b : JournalResult) (x y : List ℕ) → Writes (Update n k (Assign v)) a x → Writes (Update n k (Assign v)) b y
      → (a ≡ b) × (x ≡ y)
  journal_assign_unique n k v = wrote_unique (Update n k (Assign v))

  pub journal_add_unique : (n k d : ℕ) (a b : JournalResult) (x y : List ℕ) → Writes (Update n k (Add d)) a x → Writes (Update n k (Add d)) b y
      → (a ≡ b) × (x ≡ y)
  journal_add_unique n k d = wrote_unique (Update n k (Add d))

  pub journal_abort_unique : (n : ℕ) (a b : JournalResult) (x y : List ℕ) → Writes (Abort n) a x → Writes (Abort n) b y → (a ≡ b) × (x ≡ y)
  journal_abort_unique n = wrote_unique (Abort n)

  pub journal_commit_unique : (n t : ℕ) (a b : JournalResult) (x y : List ℕ) → Writes (Commit n t) a x → Writes (Commit n t) b y → (a ≡ b) × (x ≡ y)
  journal_commit_unique n t = wrote_unique (Commit n t)

  pub journal_read_unique : (n k : ℕ) (a b : Answer) → Answers (λ r. r ≡ shaped_reply h keys values j (read_decided n k)) a
      → Answers (λ r. r ≡ shaped_reply h keys values j (read_decided n k)) b → a ≡ b
  journal_read_unique n k a b p q = same p q (p.meets ∙ sym q.meets)

  pub journal_lookup_unique : (k t : ℕ) (a b : Answer) → Answers (λ r. r ≡ shaped_reply h keys values j (lookup_decided k t)) a
      → Answers (λ r. r ≡ shaped_reply h keys values j (lookup_decided k t)) b → a ≡ b
  journal_lookup_unique k t a b p q = same p q (p.meets ∙ sym q.meets)

  pub journal_list_unique : (t : ℕ) (listed contents x y x' y' : List ℕ) (a b : Answer)
      → Answers (λ r. ListedBy h keys values j t listed contents r x y) a → Answers (λ r. ListedBy h keys values j t listed contents r x' y') b
      → (a ≡ b) × (x ≡ x') × (y ≡ y')
  journal_list_unique t listed contents x y x' y' a b p q = (
    same p q (p.meets.reply ∙ sym q.meets.reply),
    p.meets.keys_column ∙ sym q.meets.keys_column,
    p.meets.values_column ∙ sym q.meets.values_column,
  )

  pub journal_checkpoint_unique : (t : ℕ) (k v x k' v' x' : List ℕ) (a b : JournalResult)
      → Returns (λ r head. journal_checkpoint.Checkpointed t h keys values j r head k v x) a.head a.answer
      → Returns (λ r head. journal_checkpoint.Checkpointed t h keys values j r head k' v' x') b.head b.answer
      → (a ≡ b) × (k ≡ k') × (v ≡ v') × (x ≡ x')
  journal_checkpoint_unique t k v x k' v' x' a b p q = (
    journal_same p q (p.meets.headed ∙ sym q.meets.headed) (p.meets.reply ∙ sym q.meets.reply),
    p.meets.keys_column ∙ sym q.meets.keys_column,
    p.meets.values_column ∙ sym q.meets.values_column,
    p.meets.cells ∙ sym q.meets.cells,
  )

  pub journal_recover_unique : (survived : ℕ) (x y : List ℕ) (a b : JournalResult)
      → Returns (λ r head. Recovered h keys values j survived r head x) a.head a.answer
      → Returns (λ r head. Recovered h keys values j survived r head y) b.head b.answer → (a ≡ b) × (x ≡ y)
  journal_recover_unique survived x y a b p q = (
    journal_same p q (p.meets.headed ∙ sym q.meets.headed) (p.meets.reply ∙ sym q.meets.reply),
    p.meets.cells ∙ sym q.meets.cells,
  )

pub map_empty_unique : (a b : MapHead) → a ≡ map_shape.empty_head → b ≡ map_shape.empty_head → a ≡ b
map_empty_unique a b p q = p ∙ sym q

module _ (h : MapHead) (cs : Columns) where
  -- begin, assign, add and abort: what is returned; the columns are lent to be read
  abbrev Gives : Call → MapResult → Type 0
  Gives c a = Returns (λ r head. Answered c h cs r head) a.head a.answer

  answered_unique : (c : Call) (a b : MapResult) → Gives c a → Gives c b → a ≡ b
  answered_unique c a b p q = map_same p q (p.meets.headed ∙ sym q.meets.headed) (p.meets.reply ∙ sym q.meets.reply)

  pub map_begin_unique : (t : ℕ) (a b : MapResult) → Gives (Begin t) a → Gives (Begin t) b → a ≡ b
  map_begin_unique t = answered_unique (Begin t)

  pub map_assign_unique : (n k v : ℕ) (a b : MapResult) → Gives (Update n k (Assign v)) a → Gives (Update n k (Assign v)) b → a ≡ b
  map_assign_unique n k v = answered_unique (Update n k (Assign v))

  pub map_add_unique : (n k d : ℕ) (a b : MapResult) → Gives (Update n k (Add d)) a → Gives (Update n k (Add d)) b → a ≡ b
  map_add_unique n k d = answered_unique (Update n k (Add d))

  pub map_abort_unique : (n : ℕ) (a b : MapResult) → Gives (Abort n) a → Gives (Abort n) b → a ≡ b
  map_abort_unique n = answered_unique (Abort n)

  pub map_commit_unique : (n t : ℕ) (x y : Columns) (a b : MapResult)
      → Returns (λ r head. Committed n t h cs r head x) a.head a.answer → Returns (λ r head. Committed n t h cs r head y) b.head b.answer
      → (a ≡ b) × (x ≡ y)
  map_commit_unique n t x y a b p q = (
    map_same p q (p.meets.answered.headed ∙ sym q.meets.answered.headed) (p.meets.answered.reply ∙ sym q.meets.answered.reply),
    p.meets.cells ∙ sym q.meets.cells,
  )

  pub map_read_unique : (n k : ℕ) (a b : Answer) → Answers (λ r. r ≡ read_reply n k h cs) a → Answers (λ r. r ≡ read_reply n k h cs) b → a ≡ b
  map_read_unique n k a b p q = same p q (p.meets ∙ sym q.meets)

  pub map_lookup_unique : (k t : ℕ) (a b : Answer) → Answers (λ r. r ≡ lookup_reply k t h cs) a → Answers (λ r. r ≡ lookup_reply k t h cs) b
      → a ≡ b
  map_lookup_unique k t a b p q = same p q (p.meets ∙ sym q.meets)

  pub map_list_unique : (t : ℕ) (listed contents x y x' y' : List ℕ) (a b : Answer) → Answers (λ r. ListedAt t h cs listed contents r x y) a
      → Answers (λ r. ListedAt t h cs listed contents r x' y') b → (a ≡ b) × (x ≡ x') × (y ≡ y')
  map_list_unique t listed contents x y x' y' a b p q = (
    same p q (p.meets.reply ∙ sym q.meets.reply),
    p.meets.keys ∙ sym q.meets.keys,
    p.meets.values ∙ sym q.meets.values,
  )

  pub map_checkpoint_unique : (t : ℕ) (x y : Columns) (a b : MapResult)
      → Returns (λ r head. map_contracts.Checkpointed t h cs r head x) a.head a.answer
      → Returns (λ r head. map_contracts.Checkpointed t h cs r head y) b.head b.answer
      → (a ≡ b) × (x ≡ y)
  map_checkpoint_unique t x y a b p q = (
    map_same p q (p.meets.headed ∙ sym q.meets.headed) (p.meets.reply ∙ sym q.meets.reply),
    p.meets.cells ∙ sym q.meets.cells,
  )

pub limits_unique : (a b : Limits) → a ≡ limits → b ≡ limits → a ≡ b
limits_unique a b p q = p ∙ sym q

pub numbers_unique : (a b : Numbers) → a ≡ numbers → b ≡ numbers → a ≡ b
numbers_unique a b p q = p ∙ sym q

pub journal_sample_unique : (a b : Head) → a ≡ journal_sample → b ≡ journal_sample → a ≡ b
journal_sample_unique a b p q = p ∙ sym q

pub map_sample_unique : (a b : MapHead) → a ≡ map_sample → b ≡ map_sample → a ≡ b
map_sample_unique a b p q = p ∙ sym q
