-- THE CUT and RECOVERY, on the cells that the contracts speak of. A restart at any byte from the journal's end at the latest accepted checkpoint,
-- recovery or empty start to its end now is accepted, whatever room is lent behind the surviving bytes and whatever used count the lent head has; then
-- the store answers as the history of the whole surviving records. Recovery reads back what the calls wrote, and recovering again changes no cell.
-- Assumes nothing.
use Rattle.std.specs.Prelude.{◌≡◌, refl, true, List, [], ◌∷◌, ◌++◌, ℕ, ◌-◌, ◌*◌, ◌/◌, ltb, length, take, drop, replicate, None}
use Rattle.std.proofs.Common.{ap, sym, ◌∙◌, subst, arith, length-take-le, drop_at, le-leb, eq-eqb, ne_eqb}
use Rattle.std.proofs.Math.Nat.{sub_self}
use Rattle.rules.specs.Limits.{most_rows}
use Rattle.rules.specs.declared.Record.{Record}
use Rattle.rules.specs.Bools.{and_left, and_right}
use Rattle.rules.specs.Kinds.{record_size}
use Rattle.rules.specs.Lists.{rising}
use Rattle.rules.specs.Columns.{rows_of}
use Rattle.rules.specs.Recovery.{walk, survivors}
use Rattle.rules.specs.Calls.{Store, with_room}
use Rattle.record.specs.Bytes.{Bytes, records_in, laid}
use Rattle.record.specs.Laid.{length_laid}
use Rattle.answer.specs.Reply.{Reply, accepted, told, after}
use Rattle.compact.specs.Compact.{compacted}
use Rattle.walk.specs.Judged.{whole_walk}
use Rattle.journal_store.specs.declared.Head.{Head}
use Rattle.journal_store.specs.Heads.{recovered_head}
use Rattle.journal_store.specs.CallContracts.{lookup_decided, shaped_reply, ListedBy, rising_keys, journal_bytes, is_recoverable, surviving, walked_reply, recover_reply, Recovered}
use Rattle.journal_store.specs.ShapeLaws.{recoverable}
use Rattle.journal_store.specs.MeaningLaws.{recover_meaning}
use Rattle.history.specs.History.{Deed, numbers, history, restarted, value_in, list_in}
use Rattle.history.specs.Refusals.{time_refused, lookup_number}
use Rattle.history.proofs.Judged.{good_accepts}
use Rattle.history.proofs.Recovered.{recovered_again}
use Rattle.history.proofs.Tied.{cut_good}
use Rattle.history.proofs.Answered.{aborting_low, restarted_commitments, restarted_runners}
use Rattle.history.specs.Cells.{Cells, meaning_of, end, Lent, Shows, Cut, lost, counting, Reached, recovered}
use Rattle.history.proofs.Meant.{course_of, meant, survived_records}
use Rattle.history.proofs.Lent.{shows_alike, tie, own}
use Rattle.history.proofs.Demands.{list_answers, looks_up_the_history}

-- rising rows have rising keys
rising_keys_lem : (m : ℕ) (keys values : List ℕ) → length keys ≡ length values → rising m (rows_of keys values) ≡ true → rising_keys m keys ≡ true
rising_keys_lem m [] values e h = refl
rising_keys_lem m (k ∷ keys) [] e h = absurd (omega arith)
rising_keys_lem m (k ∷ keys) (v ∷ values) e h =
    rw (and_left (ltb m k) (rising k (rows_of keys values)) h)
    (rising_keys_lem k keys values (omega arith) (and_right (ltb m k) (rising k (rows_of keys values)) h))

-- records at the front of a journal, laid there once more
compacted_again : (stay : List Record) (end : ℕ) (b : List ℕ)
    → compacted stay (length stay * record_size) (compacted stay end b) ≡ compacted stay end b
compacted_again stay end b =
    let rest = replicate (end - length stay * record_size) 0 ++ drop end b in
    rw (drop_at (laid stay) rest (length stay * record_size) (length_laid stay), sub_self (length stay * record_size))

-- THE CUT
module _ {room : ℕ → Type 0} {ds : List Deed} {since : ℕ} {x : Cells} (r : Reached room ds since x) (survived : ℕ) (cut : Cut x since survived)
    (keys values journal : List ℕ) (l : Lent x survived keys values journal) where
  -- base keys rise
  rises : rising_keys 0 (take x.head.base.rows keys) ≡ true
  rises =
      let s = (meant r).shaped in
      let n = x.head.base.rows in
      let a = length-take-le n x.keys s.rows in
      let b = length-take-le n x.values (omega (arith, s.rows, s.paired)) in
      rw l.held.keys_held (rising_keys_lem 0 (take n x.keys) (take n x.values) (a ∙ sym b) (tie r).sorted)

  -- so the shape can be recovered
  can_recover : is_recoverable x.head keys (length values) (length journal) survived ≡ true
  can_recover =
      let s = (meant r).shaped in
      rw (
        le-leb x.head.base.rows most_rows s.rows_limit,
        le-leb x.head.base.rows (length keys) l.rows,
        eq-eqb (length keys) (length values) l.paired,
        le-leb survived journal_bytes (omega (arith, cut.early, s.used_limit)),
        le-leb survived (length journal) l.used,
        ne_eqb x.head.floor 0 s.floored,
      )
      rises

  -- and the walk accepts the surviving records
  walked : walk x.head.low (surviving survived journal) ≡ None
  walked =
      let w = recoverable x.head keys (length values) (length journal) survived can_recover in
      let e = survived_records (meant r) survived cut keys values journal w l.held in
      rw e (whole_walk x.head.low (drop (lost x survived) (meaning_of x).records)
      (good_accepts (cut_good (course_of ds since x) (tie r) (lost x survived) (omega (arith, cut.late)))))

  pub replied : recover_reply x.head keys values journal survived ≡ accepted None
  replied = rw can_recover (ap walked_reply walked)

  module _ (bytes : Bytes journal) (used : ℕ) (a : Reply) (head : Head) (journal' : List ℕ)
      (w : Recovered (counting used x.head) keys values journal survived a head journal') where
    -- Recovery accepts.
    pub the_cut_is_accepted : a ≡ accepted None
    the_cut_is_accepted = w.reply ∙ replied

    -- The store goes on as one reached by the calls whose records survived, with an abort for each transaction that ran at the cut.
    pub the_cut_goes_on : Reached room (restarted (lost x survived) ds) 0 (record { head = head; keys = keys; values = values; journal = journal' })
    the_cut_goes_on =
        subst
        (λ (n : ℕ). Reached room (after n (restarted (lost x survived) ds) ds) (after n 0 since) (after n (record { head = head; keys = keys; values = values; journal = journal' }) x))
        (ap (λ (b : Reply). b.number) the_cut_is_accepted)
        (recovered r survived cut keys values journal bytes (λ _. l.held) used a head journal' w)

    abbrev after_cut : Cells
    after_cut = record { head = head; keys = keys; values = values; journal = journal' }

    -- Lookups answer as the history of the whole surviving records.
    pub the_cut_looks_up : (keys₁ values₁ journal₁ : List ℕ) → Lent after_cut (end after_cut) keys₁ values₁ journal₁ → (k t : ℕ)
        → shaped_reply head keys₁ values₁ journal₁ (lookup_decided k t)
        ≡ told (lookup_number k t (history (drop (lost x survived) ds))) (value_in (history (drop (lost x survived) ds)).commitments t k)
    the_cut_looks_up keys₁ values₁ journal₁ m k t =
        looks_up_the_history the_cut_goes_on keys₁ values₁ journal₁ m k t
        ∙ rw (restarted_commitments (lost x survived) ds, aborting_low (numbers (history (drop (lost x survived) ds)).runners) (drop (lost x survived) ds))

    -- Lists too.
    pub the_cut_lists : (keys₁ values₁ journal₁ : List ℕ) → Lent after_cut (end after_cut) keys₁ values₁ journal₁ → (t : ℕ) (listed contents : List ℕ)
        → length listed ≡ length contents → (b : Reply) (listed' contents' : List ℕ)
        → ListedBy head keys₁ values₁ journal₁ t listed contents b listed' contents'
        → Shows (list_in (history (drop (lost x survived) ds)).commitments t)
        (with_room (time_refused t (history (drop (lost x survived) ds)) 0) (length (list_in (history (drop (lost x survived) ds)).commitments t)) (length listed))
        listed contents b listed' contents'
    the_cut_lists keys₁ values₁ journal₁ m t listed contents p b listed' contents' v =
        rw (← restarted_commitments (lost x survived) ds, ← aborting_low (numbers (history (drop (lost x survived) ds)).runners) (drop (lost x survived) ds))
        (list_answers the_cut_goes_on keys₁ values₁ journal₁ m t listed contents p b listed' contents' v)

    -- Nothing runs then.
    pub the_cut_ends : (history (restarted (lost x survived) ds)).runners ≡ []
    the_cut_ends = restarted_runners (course_of ds since x) (tie r) (lost x survived) (omega (arith, cut.late))

-- RECOVERY
module _ {room : ℕ → Type 0} {ds : List Deed} {since : ℕ} {x : Cells} (r : Reached room ds since x) (survived : ℕ) (cut : Cut x since survived)
    (keys values journal : List ℕ) (l : Lent x survived keys values journal) (bytes : Bytes journal) (used : ℕ) (a : Reply) (head : Head) (journal' : List ℕ)
    (w : Recovered (counting used x.head) keys values journal survived a head journal') where
  -- Recovering again accepts and changes neither the head nor a cell.
  pub recovering_again : (old : ℕ) (b : Reply) (head' : Head) (journal'' : List ℕ)
      → Recovered (counting old head) keys values journal' (head.journal.used * record_size) b head' journal'' → (b ≡ accepted None) × (head' ≡ head) × (journal'' ≡ journal')
  recovering_again old b head' journal'' v =
      let next = the_cut_goes_on r survived cut keys values journal l bytes used a head journal' w in
      let next-cells : Cells = record { head = head; keys = keys; values = values; journal = journal' } in
      let e = replied r survived cut keys values journal l in
      let left = surviving survived journal in
      let f : head ≡ recovered_head x.head left = w.headed ∙ ap (λ (q : Reply). after q.number (recovered_head x.head left) (counting used x.head)) e in
      let g : journal' ≡ compacted (survivors left) survived journal =
      w.cells ∙ ap (λ (q : Reply). after q.number (compacted (survivors left) survived journal) journal) e
      in
      let stayed = length (survivors left) in
      let d : stayed * record_size / record_size ≡ stayed = omega arith in
      let n : surviving (stayed * record_size) journal' ≡ survivors left =
      ap (λ (i : ℕ). records_in i journal') d ∙ ap (records_in stayed) g ∙ recover_meaning x.head keys values journal survived bytes
      in
      let s : Store = record { low = x.head.low; floor = x.head.floor; base = []; records = left } in
      let again = recovered_again s in
      let z = replied next (end next-cells) (record { late = omega arith; early = omega arith }) keys values journal' (own next) in
      let y : (recover_reply head keys values journal' (head.journal.used * record_size)).number ≡ 0 = ap (λ (q : Reply). q.number) z in
      let headed : head' ≡ recovered_head head (surviving (head.journal.used * record_size) journal') =
      v.headed ∙ ap (λ (i : ℕ). after i (recovered_head head (surviving (head.journal.used * record_size) journal')) (counting old head)) y
      in
      let cells : journal'' ≡ compacted (survivors (surviving (head.journal.used * record_size) journal')) (head.journal.used * record_size) journal' =
      v.cells
      ∙ ap (λ (i : ℕ). after i (compacted (survivors (surviving (head.journal.used * record_size) journal')) (head.journal.used * record_size) journal') journal') y
      in
      let c : survivors (survivors left) ≡ survivors left = ap (λ (t : Store). t.records) again in
      let same : recovered_head (recovered_head x.head left) (survivors left) ≡ recovered_head x.head left =
      rw (ap (λ (t : Store). t.floor) again, c)
      in (
        v.reply ∙ z,
        headed
            ∙ ap (λ (z : Head). recovered_head z (surviving (z.journal.used * record_size) journal')) f
            ∙ ap (recovered_head (recovered_head x.head left)) n
            ∙ same
            ∙ sym f,
        cells
            ∙ ap (λ (z : Head). compacted (survivors (surviving (z.journal.used * record_size) journal')) (z.journal.used * record_size) journal') f
            ∙ ap (λ (rs : List Record). compacted (survivors rs) (stayed * record_size) journal') n
            ∙ ap (λ (rs : List Record). compacted rs (stayed * record_size) journal') c
            ∙ ap (compacted (survivors left) (stayed * record_size)) g
            ∙ compacted_again (survivors left) survived journal
            ∙ sym g,
      )

-- Recovering the whole of what the calls wrote is accepted, and every list at every time, refused ones too, is what it was before.
module _ {room : ℕ → Type 0} {ds : List Deed} {since : ℕ} {x : Cells} (r : Reached room ds since x) (keys values journal : List ℕ)
    (l : Lent x (end x) keys values journal) (bytes : Bytes journal) (used : ℕ) (a : Reply) (head : Head) (journal' : List ℕ)
    (w : Recovered (counting used x.head) keys values journal (end x) a head journal') where
  nothing_cut : Cut x since (end x)
  nothing_cut = record { late = omega arith; early = omega arith }

  pub recovery_accepts : a ≡ accepted None
  recovery_accepts = the_cut_is_accepted r (end x) nothing_cut keys values journal l bytes used a head journal' w

  pub recovery_reads_back : (t : ℕ) (listed contents : List ℕ) → length listed ≡ length contents → (b b' : Reply) (listed₁ contents₁ listed₂ contents₂ : List ℕ)
      → ListedBy x.head keys values journal t listed contents b listed₁ contents₁
      → ListedBy head keys values journal' t listed contents b' listed₂ contents₂
      → (b ≡ b') × (listed₁ ≡ listed₂) × (contents₁ ≡ contents₂)
  recovery_reads_back t listed contents p b b' listed₁ contents₁ listed₂ contents₂ u v =
      let none : lost x (end x) ≡ 0 = omega arith in
      let next = the_cut_goes_on r (end x) nothing_cut keys values journal l bytes used a head journal' w in
      let rows = list_in (history ds).commitments t in
      shows_alike rows (with_room (time_refused t (history ds) 0) (length rows) (length listed)) listed contents b listed₁ contents₁ b' listed₂ contents₂
      (list_answers r keys values journal l t listed contents p b listed₁ contents₁ u)
      (rw none at (the_cut_lists r (end x) nothing_cut keys values journal l bytes used a head journal' w keys values journal' (own next) t listed contents p b' listed₂ contents₂ v))
