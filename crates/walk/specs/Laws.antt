-- What a state of recovery's walk says of the records passed, and what one accepted record more makes of it. Assumes nothing.
use Rattle.std.specs.Prelude.{◌≡◌, refl, true, false, not, List, [], ◌∷◌, ℕ, zero, suc, ◌+◌, ◌-◌, ◌≤◌, ◌<◌, eqb, leb, ltb, length, take, get_or, set}
use Rattle.std.proofs.Common.{sym, ap, ◌∙◌, le_of_lt, add-one, arith, length-set, take-suc, get_or-set_same, get_or-set_other, eqb-true, eq-eqb, ne_eqb, leb-true, ltb-true, ltb-false}
use Rattle.std.proofs.Math.Nat.{max-eq_right}
use Rattle.rules.specs.Limits.{most_running, numbers_end}
use Rattle.rules.specs.declared.Record.{Record}
use Rattle.rules.specs.Bools.{split, and_left, and_false, or_left, or_right}
use Rattle.rules.specs.Kinds.{is_begin, is_commit, is_end}
use Rattle.rules.specs.Lists.{among}
use Rattle.rules.specs.Transactions.{any, of, runs, opens, snapshot, running, without}
use Rattle.rules.specs.Times.{last, above}
use Rattle.rules.specs.Running.{running_skip, running_end, running_runs, below}
use Rattle.rules.specs.Recovery.{numbered, timely, judge}
use Rattle.journal.specs.Past.{Past}
use Rattle.journal.specs.PastLaws.{past_last}
use Rattle.rules.specs.Judged.{judged}
use Rattle.column.specs.AmongLaws.{among_end}
use Rattle.walk.specs.declared.State.{State}
use Rattle.walk.specs.Walk.{started, pushed, latest, Held, Room, Without, Open, Tracks, numbered_by, timely_by}

-- the rows of a column, the latest first
pub latest_set : (n m x : ℕ) (xs : List ℕ) → n ≤ m → latest n (set xs m x) ≡ latest n xs
latest_set zero m x xs h = refl
latest_set (suc n) m x xs h = rw (get_or-set_other xs m n x 0 (λ e. omega arith), latest_set n m x xs (omega arith))

pub latest_push : (n x : ℕ) (xs : List ℕ) → n < length xs → latest (n + 1) (set xs n x) ≡ x ∷ latest n xs
latest_push n x xs h = rw (add-one, get_or-set_same xs n x 0 h, latest_set n n x xs (omega arith))

pub length_latest : (n : ℕ) (xs : List ℕ) → length (latest n xs) ≡ n
length_latest zero xs = refl
length_latest (suc n) xs = rw (length_latest n xs)

pub among_latest : (k n : ℕ) (xs : List ℕ) → n ≤ length xs → among k (take n xs) ≡ among k (latest n xs)
among_latest k zero xs h = refl
among_latest k (suc n) xs h =
    rw (take-suc xs n 0 h, among_end k (get_or xs n 0) (take n xs), among_latest k n xs (omega arith))

row_among : (j n : ℕ) (xs : List ℕ) → j < n → among (get_or xs j 0) (latest n xs) ≡ true
row_among j zero xs h = elim h [ ]
row_among j (suc n) xs h =
    split (ltb j n)
    (λ l. or_right (eqb (get_or xs n 0) (get_or xs j 0)) (among (get_or xs j 0) (latest n xs)) (row_among j n xs (ltb-true j n l)))
    (λ l.
    let e : n ≡ j = omega (arith, ltb-false j n l) in
    or_left (eqb (get_or xs n 0) (get_or xs j 0)) (among (get_or xs j 0) (latest n xs)) (eq-eqb _ _ (ap (λ (i : ℕ). get_or xs i 0) e)))

-- one row more
module _ (s : State) (n t : ℕ) (room : Room s) (l : s.count < most_running) where
  pub push_room : Room (pushed s n t)
  push_room = record { numbers = simp length-set room.numbers; snapshots = simp length-set room.snapshots }

  pub push_rows : latest (s.count + 1) (set s.numbers s.count n) ≡ n ∷ latest s.count s.numbers
  push_rows = latest_push s.count n s.numbers (omega (arith, room.numbers))

  pub push_held : (snap : ℕ → ℕ) → Held snap s → t ≡ snap n → Held snap (pushed s n t)
  push_held snap h e j k =
      split (ltb j s.count)
      (λ b.
      let c : j < s.count = ltb-true j s.count b in
      rw (get_or-set_other s.snapshots s.count j t 0 (λ q. omega arith), get_or-set_other s.numbers s.count j n 0 (λ q. omega arith)) (h j c))
      (λ b.
      let c : j ≡ s.count = omega (arith, ltb-false j s.count b) in
      rw (c, get_or-set_same s.snapshots s.count t 0 (omega (arith, room.snapshots)), get_or-set_same s.numbers s.count n 0 (omega (arith, room.numbers))) e)

-- no row is used at the start
pub started_tracks : (low : ℕ) → Tracks low [] (started low)
started_tracks low =
    record {
      last = refl;
      above = refl;
      fresh = λ n h. refl;
      opened = record { few = omega arith; room = record { numbers = refl; snapshots = refl }; rows = refl; held = λ j l. absurd (omega arith) };
    }

snapshot_more : (m : ℕ) (r : Record) (rs : List Record) → runs m rs ≡ true → snapshot m (r ∷ rs) ≡ snapshot m rs
snapshot_more m r rs h =
    let b : any is_begin (of m rs) ≡ true = and_left (any is_begin (of m rs)) (not (any is_end (of m rs))) h in
    split (eqb r.transaction m) (λ e. rw (e, b, and_false (is_begin r))) (λ e. rw e)

-- what the rows say
module _ (rs : List Record) (s : State) (o : Open rs s) where
  pub rows_run : (n : ℕ) → among n (take s.count s.numbers) ≡ runs n rs
  rows_run n =
      among_latest n s.count s.numbers (omega (arith, o.few, o.room.numbers)) ∙ ap (among n) o.rows ∙ running_runs n rs

  pub rows_count : s.count ≡ length (running rs)
  rows_count = sym (length_latest s.count s.numbers) ∙ ap length o.rows

  row_runs : (j : ℕ) → j < s.count → runs (get_or s.numbers j 0) rs ≡ true
  row_runs j l =
      sym (running_runs (get_or s.numbers j 0) rs) ∙ ap (among (get_or s.numbers j 0)) (sym o.rows) ∙ row_among j s.count s.numbers l

  -- a record more leaves the snapshots of those that run
  pub held_more : (r : Record) → Held (λ m. snapshot m (r ∷ rs)) s
  held_more r j l = o.held j l ∙ sym (snapshot_more (get_or s.numbers j 0) r rs (row_runs j l))

-- the state's tests are those of section 5
module _ (low : ℕ) (rs : List Record) (r : Record) (s : State) (h : Tracks low rs s) where
  pub numbered_by_lem : numbered_by s r ≡ numbered rs r
  numbered_by_lem = split (is_begin r) (λ e. rw (e, h.above)) (λ e. rw e (rows_run rs s h.opened r.transaction))

  pub timely_by_lem : timely_by low s r ≡ timely low rs r
  timely_by_lem = rw h.last

  -- no commit passed is later than the state's last
  pub past_by : Past s.last rs
  past_by = rw h.last (past_last low rs)

  -- a commit that is numbered rightly is one of a running transaction
  pub commit_runs : numbered_by s r ≡ true → is_commit r ≡ true → runs r.transaction rs ≡ true
  commit_runs n c =
      let k : r.kind ≡ 4 = eqb-true r.kind 4 c in
      let q : numbered rs r ≡ true = sym numbered_by_lem ∙ n in
      rw k at q

-- one accepted record more
module _ (low : ℕ) (rs : List Record) (r : Record) (s : State) (h : Tracks low rs s) (j : judge low rs r ≡ true) where
  -- a begin finds a free row
  pub begin_room : is_begin r ≡ true → s.count < most_running
  begin_room b =
      let l : ltb (length (running rs)) most_running ≡ true = rw b at (judged low rs r j).limited in
      omega (arith, rows_count rs s h.opened, ltb-true (length (running rs)) most_running l)

  module _ (k : r.kind ≡ 1) where
    exceeds : above 1 rs ≤ r.transaction
    exceeds =
        leb-true (above 1 rs) r.transaction
        (and_left (leb (above 1 rs) r.transaction) (leb r.transaction (numbers_end - 1)) (rw k at (judged low rs r j).numbered))

    none : of r.transaction rs ≡ []
    none = h.fresh r.transaction exceeds

    own : of r.transaction (r ∷ rs) ≡ r ∷ []
    own = rw (eq-eqb r.transaction r.transaction refl, none)

    one_runs : running (r ∷ rs) ≡ r.transaction ∷ running rs
    one_runs =
        let e : is_end r ≡ false = rw k in
        let o : opens (r ∷ rs) r rs ≡ true = rw (own, none, k) in
        rw (o, running_skip r e rs rs)

    -- a begin: its number and its snapshot are the last row
    pub begins : Tracks low (r ∷ rs)
        (record {
          last = s.last;
          above = r.transaction + 1;
          count = s.count + 1;
          numbers = set s.numbers s.count r.transaction;
          snapshots = set s.snapshots s.count r.time;
        })
    begins =
        let o = h.opened in
        let l = begin_room (eq-eqb r.kind 1 k) in
        let q = push_room s r.transaction r.time o.room l in
        let x : above 1 rs ≤ suc r.transaction = omega (arith, exceeds) in
        let a : above 1 (r ∷ rs) ≡ suc r.transaction = rw (k, max-eq_right x) in
        let t : r.time ≡ snapshot r.transaction (r ∷ rs) = rw (own, k) in
        record {
          last = rw k h.last;
          above = add-one r.transaction ∙ sym a;
          fresh =
              λ n m.
              let u : suc r.transaction ≤ n = rw a at m in
              rw (ne_eqb r.transaction n (λ e. omega arith)) (h.fresh n (omega (arith, exceeds)));
          opened =
              record {
                few = omega arith;
                room = record { numbers = q.numbers; snapshots = q.snapshots };
                rows =
                    push_rows s r.transaction r.time o.room l ∙ ap (λ (ns : List ℕ). r.transaction ∷ ns) o.rows ∙ sym one_runs;
                held = push_held s r.transaction r.time o.room l (λ m. snapshot m (r ∷ rs)) (held_more rs s o r) t;
              };
        }

  module _ (b : is_begin r ≡ false) where
    goes_on : runs r.transaction rs ≡ true
    goes_on = rw b at (judged low rs r j).numbered

    same_above : s.above ≡ above 1 (r ∷ rs)
    same_above = rw b h.above

    still_fresh : (n : ℕ) → above 1 (r ∷ rs) ≤ n → of n (r ∷ rs) ≡ []
    still_fresh n m =
        let u : above 1 rs ≤ n = rw b at m in
        let t : r.transaction < above 1 rs = below 1 r.transaction rs h.fresh goes_on in
        rw (ne_eqb r.transaction n (λ e. omega arith)) (h.fresh n u)

    ends : is_end r ≡ true → (v : State) → Without s r.transaction s.count v → Open (r ∷ rs) v
    ends e v w =
        let o = h.opened in
        let one_less : running (r ∷ rs) ≡ without r.transaction (running rs) = rw b (running_end r e rs rs) in
        record {
          few = omega (arith, w.few, o.few);
          room = w.room;
          rows = w.rows ∙ ap (without r.transaction) o.rows ∙ sym one_less;
          held = w.held (λ m. snapshot m (r ∷ rs)) (held_more rs s o r);
        }

  -- a commit: its time is last, and its row goes
  pub commits : r.kind ≡ 4 → (v : State) → Without s r.transaction s.count v
      → Tracks low (r ∷ rs) (record { last = r.time; above = v.above; count = v.count; numbers = v.numbers; snapshots = v.snapshots })
  commits k v w =
      let b : is_begin r ≡ false = rw k in
      let o = ends b (rw k) v w in
      let t : ltb (last low rs) r.time ≡ true = rw k at (judged low rs r j).timely in
      record {
        last = sym (rw (k, max-eq_right (le_of_lt (ltb-true (last low rs) r.time t))));
        above = w.above ∙ same_above b;
        fresh = still_fresh b;
        opened = record { few = o.few; room = record { numbers = o.room.numbers; snapshots = o.room.snapshots }; rows = o.rows; held = o.held };
      }

  -- an abort: its row goes
  pub aborts : r.kind ≡ 5 → (v : State) → Without s r.transaction s.count v → Tracks low (r ∷ rs) v
  aborts k v w =
      let b : is_begin r ≡ false = rw k in
      record { last = w.last ∙ rw k h.last; above = w.above ∙ same_above b; fresh = still_fresh b; opened = ends b (rw k) v w }

  -- any other record changes nothing
  pub others : (r.kind ≡ 1 → ⊥) → (r.kind ≡ 4 → ⊥) → (r.kind ≡ 5 → ⊥) → Tracks low (r ∷ rs) s
  others x y z =
      let o = h.opened in
      let b : is_begin r ≡ false = ne_eqb r.kind 1 x in
      let c : is_commit r ≡ false = ne_eqb r.kind 4 y in
      let e : is_end r ≡ false = rw (c, ne_eqb r.kind 5 z) in
      let same : running (r ∷ rs) ≡ running rs = rw b (running_skip r e rs rs) in
      record {
        last = rw c h.last;
        above = same_above b;
        fresh = still_fresh b;
        opened = record { few = o.few; room = o.room; rows = o.rows ∙ sym same; held = held_more rs s o r };
      }
