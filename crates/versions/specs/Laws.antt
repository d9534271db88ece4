-- The columns and the versions that they hold, and what a search over these says of the rows. Assumes nothing.
use Rattle.std.specs.Prelude.{◌≡◌, refl, Bool, true, false, not, ◌&&◌, List, [], ◌∷◌, ◌++◌, ℕ, zero, suc, ◌+◌, ◌-◌, ◌≤◌, ◌<◌, eqb, leb, ltb, length, get_or, drop, set, replicate, Some, None}
use Rattle.std.proofs.Common.{ap, ap₂, ◌∙◌, append_assoc, not-suc-le-zero, add-one, arith, eqb-true, leb-true, leb-false, ltb-true, ltb-false, length-append, get_or-set_same, get_or-set_other}
use Rattle.std.proofs.lemmas.Bool.{eqb-false}
use Rattle.std.proofs.lemmas.List.{get_or_at}
use Rattle.rules.specs.Bools.{split, or_right, or_none_left, or_none_right}
use Rattle.rules.specs.Lists.{among}
use Rattle.rules.proofs.Listing.{Lists, listed_lists}
use Rattle.versions.specs.declared.Version.{Version}
use Rattle.versions.specs.Versions.{Columns, columns, version_at, versions_of, Best, nothing, at, better, newest_step, newest, row_of, value_at, is_marked, later, is_kept, thin, kept_from, keys_of, list_at}
use Rattle.versions.specs.Columns.{Spans, Long, each, with_version, column, Kept}

pub length_versions : (n : ℕ) (cs : Columns) → length (versions_of n cs) ≡ n
length_versions zero cs = refl
length_versions (suc n) cs = ap suc (length_versions n cs)

-- rows behind the first n do not matter
pub same_rows : (n : ℕ) (cs cs' : Columns) → ((i : ℕ) → i < n → version_at i cs ≡ version_at i cs') → versions_of n cs ≡ versions_of n cs'
same_rows zero cs cs' h = refl
same_rows (suc n) cs cs' h = ap₂ (λ (v : Version) (older : List Version). v ∷ older) (h n (omega arith)) (same_rows n cs cs' (λ i l. h i (omega arith)))

-- columns are the same where each of them is
pub columns_same : {cs cs' : Columns} → cs.keys ≡ cs'.keys → cs.times ≡ cs'.times → cs.values ≡ cs'.values → cs.marks ≡ cs'.marks
    → cs ≡ cs'
columns_same {cs} {cs'} k t v m =
    ap (λ (x : List ℕ). columns x cs.times cs.values cs.marks) k
    ∙ ap (λ (x : List ℕ). columns cs'.keys x cs.values cs.marks) t
    ∙ ap (λ (x : List ℕ). columns cs'.keys cs'.times x cs.marks) v
    ∙ ap (λ (x : List ℕ). columns cs'.keys cs'.times cs'.values x) m

-- and a version where each of its fields is
version_same : {v w : Version} → v.key ≡ w.key → v.time ≡ w.time → v.value ≡ w.value → v.mark ≡ w.mark → v ≡ w
version_same {v} {w} k t u m =
    ap (λ (x : ℕ). record { key = x; time = v.time; value = v.value; mark = v.mark }) k
    ∙ ap (λ (x : ℕ). record { key = w.key; time = x; value = v.value; mark = v.mark }) t
    ∙ ap (λ (x : ℕ). record { key = w.key; time = w.time; value = x; mark = v.mark }) u
    ∙ ap (λ (x : ℕ). record { key = w.key; time = w.time; value = w.value; mark = x }) m

-- columns are as long as themselves
pub long_self : (cs : Columns) → Long cs cs
long_self cs = record { keys = refl; times = refl; values = refl; marks = refl }

module _ {n : ℕ} {cs : Columns} (l : Spans n cs) where
  -- fewer rows are lent too
  pub lent_fewer : {m : ℕ} → m ≤ n → Spans m cs
  lent_fewer h =
      record { keys = omega (arith, l.keys); times = omega (arith, l.times); values = omega (arith, l.values); marks = omega (arith, l.marks) }

  -- and so they are in columns of the same length
  pub lent_long : {cs' : Columns} → Long cs cs' → Spans n cs'
  lent_long w =
      record {
        keys = rw w.keys l.keys;
        times = rw w.times l.times;
        values = rw w.values l.values;
        marks = rw w.marks l.marks;
      }

  module _ (change : (Version → ℕ) → List ℕ → List ℕ) where
    -- two ways that make the same of each column that has the rows
    pub each_same : (other : (Version → ℕ) → List ℕ → List ℕ) → ((field : Version → ℕ) (cells : List ℕ) → n ≤ length cells → change field cells ≡ other field cells)
        → each change cs ≡ each other cs
    each_same other h = columns_same (h _ cs.keys l.keys) (h _ cs.times l.times) (h _ cs.values l.values) (h _ cs.marks l.marks)

    -- a way that leaves the lengths
    pub each_long : ((field : Version → ℕ) (cells : List ℕ) → n ≤ length cells → length (change field cells) ≡ length cells) → {cs' : Columns} → Long cs cs'
        → Long cs (each change cs')
    each_long h {cs'} w =
        let l' = lent_long w in
        record {
          keys = h _ cs'.keys l'.keys ∙ w.keys;
          times = h _ cs'.times l'.times ∙ w.times;
          values = h _ cs'.values l'.values ∙ w.values;
          marks = h _ cs'.marks l'.marks ∙ w.marks;
        }

    -- a way that puts a version's fields into row i
    pub each_version : (i : ℕ) (v : Version) → ((field : Version → ℕ) (cells : List ℕ) → n ≤ length cells → get_or (change field cells) i 0 ≡ field v)
        → version_at i (each change cs) ≡ v
    each_version i v h = version_same (h _ cs.keys l.keys) (h _ cs.times l.times) (h _ cs.values l.values) (h _ cs.marks l.marks)

    -- a way that leaves row i
    pub each_row : (i : ℕ) → ((field : Version → ℕ) (cells : List ℕ) → n ≤ length cells → get_or (change field cells) i 0 ≡ get_or cells i 0)
        → version_at i (each change cs) ≡ version_at i cs
    each_row i h = version_same (h _ cs.keys l.keys) (h _ cs.times l.times) (h _ cs.values l.values) (h _ cs.marks l.marks)

-- no row is asked for
pub none_lent : (cs : Columns) → Spans 0 cs
none_lent cs = record { keys = omega arith; times = omega arith; values = omega arith; marks = omega arith }

pub length_column : (field : Version → ℕ) (vs : List Version) → length (column field vs) ≡ length vs
length_column field [] = refl
length_column field (v ∷ older) =
    let l = length_column field older in
    rw length-append (omega arith)

-- a row appended to n rows is one version more
pub appended_versions : (n : ℕ) (v : Version) (cs : Columns) → Spans (n + 1) cs → versions_of (n + 1) (with_version n v cs) ≡ v ∷ versions_of n cs
appended_versions n v cs l =
    rw (
      add-one,
      each_version l (λ field cells. set cells n (field v)) n v (λ field cells h. get_or-set_same cells n (field v) 0 (omega arith)),
      same_rows n (with_version n v cs) cs
          (λ i m. each_row l (λ field cells. set cells n (field v)) i (λ field cells h. get_or-set_other cells n i (field v) 0 (omega arith))),
    )

module _ (k t : ℕ) (cs : Columns) where
  -- row i holds the newest version of k at or before t of the first n: the greatest time, the earliest row among equals
  pub record NewestAt (n i u v : ℕ) : Type 0 where
    pub row : i < n
    pub key : get_or cs.keys i 0 ≡ k
    pub time : get_or cs.times i 0 ≡ u
    pub value : get_or cs.values i 0 ≡ v
    pub before : u ≤ t
    pub greatest : (j : ℕ) → j < n → get_or cs.keys j 0 ≡ k → get_or cs.times j 0 ≤ t → get_or cs.times j 0 ≤ u
    pub earliest : (j : ℕ) → j < i → get_or cs.keys j 0 ≡ k → get_or cs.times j 0 ≡ u → ⊥

  -- none of the first n rows has a version of k at or before t
  abbrev pub NoneAt : ℕ → Type 0
  NoneAt n = (j : ℕ) → j < n → get_or cs.keys j 0 ≡ k → get_or cs.times j 0 ≤ t → ⊥

  -- what an answer of the search says of the first n rows
  abbrev pub Says : ℕ → Best → Type 0
  Says n nothing = NoneAt n
  Says n (at i u v) = NewestAt n i u v

  -- what holds of each row before n, and of row n, holds of each of n + 1 rows
  all_rows : (n : ℕ) (P : ℕ → Type 0) → ((j : ℕ) → j < n → P j) → P n → (j : ℕ) → j < suc n → P j
  all_rows n P all here j l =
      split (eqb j n)
      (λ e. rw (eqb-true j n e) here)
      (λ e. let ne = eqb-false j n e in all j (omega arith))

  -- a row that is passed over
  passed : (n : ℕ) (b : Best) → Says n b
      → (get_or cs.keys n 0 ≡ k → get_or cs.times n 0 ≤ t → better b (get_or cs.times n 0) ≡ false) → Says (suc n) b
  passed n nothing h p = all_rows n _ h (λ a l. let z = p a l in let w : ◌≡◌ {A = ℕ} 0 1 = cc in omega arith)
  passed n (at i u v) h p =
      record {
        row = omega (arith, h.row);
        key = h.key;
        time = h.time;
        value = h.value;
        before = h.before;
        greatest = all_rows n _ h.greatest (λ a l. ltb-false u (get_or cs.times n 0) (p a l));
        earliest = h.earliest;
      }

  -- a row that is found
  taken : (n : ℕ) (b : Best) → Says n b → get_or cs.keys n 0 ≡ k → get_or cs.times n 0 ≤ t → better b (get_or cs.times n 0) ≡ true
      → NewestAt (suc n) n (get_or cs.times n 0) (get_or cs.values n 0)
  taken n nothing h a l p =
      record {
        row = omega arith;
        key = a;
        time = refl;
        value = refl;
        before = l;
        greatest = all_rows n _ (λ j m e f. absurd (h j m e f)) (λ _ _. omega arith);
        earliest = λ j m e f. h j m e (omega arith);
      }
  taken n (at i u v) h a l p =
      let q = ltb-true u (get_or cs.times n 0) p in
      record {
        row = omega arith;
        key = a;
        time = refl;
        value = refl;
        before = l;
        greatest = all_rows n _ (λ j m e f. omega (arith, h.greatest j m e f)) (λ _ _. omega arith);
        earliest = λ j m e f. let z : get_or cs.times j 0 ≤ u = h.greatest j m e (omega arith) in omega arith;
      }

  -- the search finds the newest version at or before t, or there is none
  pub newest_says : (n : ℕ) → Says n (newest k t (versions_of n cs))
  newest_says zero = λ j l. absurd (not-suc-le-zero l)
  newest_says (suc n) =
      rw (length_versions n cs) (step (newest k t (versions_of n cs)) (newest_says n))
    where
      step : (b : Best) → Says n b → Says (suc n) (newest_step k t (version_at n cs) n b)
      step b h =
          split (eqb (get_or cs.keys n 0) k)
          (λ a.
          split (leb (get_or cs.times n 0) t)
          (λ l.
          split (better b (get_or cs.times n 0))
          (λ p. rw (a, l, p) (taken n b h (eqb-true (get_or cs.keys n 0) k a) (leb-true (get_or cs.times n 0) t l) p))
          (λ p. rw (a, l, p) (passed n b h (λ _ _. p))))
          (λ l. rw (a, l) (passed n b h (λ _ m. absurd (not_both m (leb-false (get_or cs.times n 0) t l))))))
          (λ a. rw a (passed n b h (λ e. absurd (eqb-false (get_or cs.keys n 0) k a e))))
        where
          not_both : {x y : ℕ} → x ≤ y → y < x → ⊥
          not_both m l = omega arith

  module _ (n : ℕ) where
    -- the version that stands in the row found
    pub found_version : {i : ℕ} → row_of (newest k t (versions_of n cs)) ≡ Some i
        → newest k t (versions_of n cs) ≡ at i (get_or cs.times i 0) (get_or cs.values i 0)
    found_version {i} = of (newest k t (versions_of n cs)) (newest_says n)
      where
        of : (b : Best) → Says n b → row_of b ≡ Some i → b ≡ at i (get_or cs.times i 0) (get_or cs.values i 0)
        of nothing h e = let z : ◌≡◌ {A = ℕ} 0 1 = cc in absurd (omega arith)
        of (at j u v) h e = let z : j ≡ i = cc in rw (← h.time, ← h.value, z)

    -- where no row is found there is no version
    pub none_found : row_of (newest k t (versions_of n cs)) ≡ None → newest k t (versions_of n cs) ≡ nothing
    none_found = of (newest k t (versions_of n cs))
      where
        of : (b : Best) → row_of b ≡ None → b ≡ nothing
        of nothing e = refl
        of (at j u v) e = let z : ◌≡◌ {A = ℕ} 0 1 = cc in absurd (omega arith)

    -- the row found is the newest
    pub found_newest : {i : ℕ} → row_of (newest k t (versions_of n cs)) ≡ Some i → NewestAt n i (get_or cs.times i 0) (get_or cs.values i 0)
    found_newest e = rw (found_version e) at (newest_says n)

-- a version later than s among the first rows is one among more
pub later_among : (s k : ℕ) (adds : Bool) (i n : ℕ) (cs : Columns) → i ≤ n → later s k adds (versions_of i cs) ≡ true
    → later s k adds (versions_of n cs) ≡ true
later_among s k adds i zero cs l h = let z : i ≡ 0 = omega arith in rw z at h
later_among s k adds i (suc n) cs l h =
    split (eqb i (suc n))
    (λ e. rw (eqb-true i (suc n) e) at h)
    (λ e.
    let ne = eqb-false i (suc n) e in
    or_right (eqb (get_or cs.keys n 0) k && (ltb s (get_or cs.times n 0) && not (adds && is_marked (version_at n cs)))) (later s k adds (versions_of n cs))
    (later_among s k adds i n cs (omega arith) h))

-- the columns of some versions hold them, whatever stands behind
pub column_versions : (rows : List Version) (behind : Columns) → versions_of (length rows) (each (λ field cells. column field rows ++ cells) behind) ≡ rows
column_versions [] behind = refl
column_versions (v ∷ older) behind =
    let z = none_lent behind in
    let more = each_same z (λ field cells. (column field older ++ (field v ∷ [])) ++ cells) (λ field cells. column field older ++ (field v ∷ cells))
    (λ field cells h. append_assoc (column field older) (field v ∷ []) cells) in
    let here = each_version z (λ field cells. column field older ++ (field v ∷ cells)) (length older) v
    (λ field cells h. get_or_at (column field older) (field v) cells 0 (length older) (length_column field older)) in
    ap (versions_of (suc (length older))) more
    ∙ ap₂ (λ (w : Version) (rows : List Version). w ∷ rows) here (column_versions older (each (λ field cells. field v ∷ cells) behind))

-- a checkpoint's columns hold what it keeps
pub kept_versions : (T n : ℕ) (cs : Columns) {cs' : Columns} {r : ℕ} → Kept T n cs cs' r → versions_of r cs' ≡ kept_from T (versions_of n cs)
kept_versions T n cs w =
    let kept = kept_from T (versions_of n cs) in
    rw (w.count, w.cells) (column_versions kept (each (λ field cells. replicate (n - length kept) 0 ++ drop n cells) cs))

-- a checkpoint keeps no more than there was
length_thin : (T : ℕ) (whole vs : List Version) → length (thin T whole vs) ≤ length vs
length_thin T whole [] = omega arith
length_thin T whole (v ∷ older) =
    let l = length_thin T whole older in
    split (is_kept T whole (length older) v) (λ e. rw e (omega arith)) (λ e. rw e (omega arith))

pub length_kept : (T n : ℕ) (cs : Columns) → length (kept_from T (versions_of n cs)) ≤ n
length_kept T n cs = omega (arith, length_thin T (versions_of n cs) (versions_of n cs), length_versions n cs)

-- a key that no version has is absent at every time
pub unknown_absent : (k t : ℕ) (vs : List Version) → among k (keys_of vs) ≡ false → value_at k t vs ≡ None
unknown_absent k t [] h = refl
unknown_absent k t (v ∷ older) h =
    rw (or_none_left (eqb v.key k) (among k (keys_of older)) h)
    (unknown_absent k t older (or_none_right (eqb v.key k) (among k (keys_of older)) h))

-- the list at t is the list of the values at t
pub list_lists : (vs : List Version) (t : ℕ) → Lists (λ k. value_at k t vs) (list_at vs t)
list_lists vs t = listed_lists (λ k. value_at k t vs) (keys_of vs) (λ k. unknown_absent k t vs)
