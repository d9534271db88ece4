-- A store passes the shape test exactly if it has a good shape; so much the tests of list and recover say too. Assumes nothing.
use Rattle.std.specs.Prelude.{◌≡◌, true, not, ◌&&◌, List, ℕ, ◌/◌, ◌≤◌, eqb, leb, length, take}
use Rattle.std.proofs.Common.{arith, leb-true, eqb-true, le-leb, eq-eqb, ne_eqb}
use Rattle.std.proofs.lemmas.Bool.{eqb-false, not-true}
use Rattle.rules.specs.Limits.{most_records, most_rows}
use Rattle.rules.specs.Bools.{and_left, and_right}
use Rattle.rules.specs.Kinds.{record_size}
use Rattle.journal_store.specs.declared.Head.{Head}
use Rattle.journal_store.specs.Shape.{is_shaped, Shaped}
use Rattle.journal_store.specs.CallContracts.{is_list_shaped, rising_keys, journal_bytes, is_recoverable, Recoverable}

-- what passes the test has a good shape
pub shape : {h : Head} {keys values bytes : ℕ} → is_shaped h keys values bytes ≡ true → Shaped h keys values bytes
shape {h} {keys} {values} {bytes} e =
    let a = leb h.base.rows most_rows in
    let b = leb h.base.rows keys in
    let c = eqb keys values in
    let d = leb h.journal.used most_records in
    let f = leb h.journal.used (bytes / record_size) in
    let g = not (eqb h.floor 0) in
    let e1 = and_right a (b && (c && (d && (f && g)))) e in
    let e2 = and_right b (c && (d && (f && g))) e1 in
    let e3 = and_right c (d && (f && g)) e2 in
    let e4 = and_right d (f && g) e3 in
    record {
      rows_limit = leb-true _ _ (and_left a (b && (c && (d && (f && g)))) e);
      rows = leb-true _ _ (and_left b (c && (d && (f && g))) e1);
      paired = eqb-true _ _ (and_left c (d && (f && g)) e2);
      used_limit = leb-true _ _ (and_left d (f && g) e3);
      used = let l : h.journal.used ≤ bytes / record_size = leb-true _ _ (and_left f g e4) in omega arith;
      floored = eqb-false _ _ (not-true _ (and_right f g e4));
    }

-- a good shape passes the test
pub shape_passes : (h : Head) (keys values bytes : ℕ) → Shaped h keys values bytes → is_shaped h keys values bytes ≡ true
shape_passes h keys values bytes w =
    let l : h.journal.used ≤ bytes / record_size = omega (arith, w.used) in
    rw (
      le-leb h.base.rows most_rows w.rows_limit,
      le-leb h.base.rows keys w.rows,
      eq-eqb keys values w.paired,
      le-leb h.journal.used most_records w.used_limit,
      le-leb h.journal.used (bytes / record_size) l,
      ne_eqb h.floor 0 w.floored,
    )

-- the shape that list asks for
module _ (h : Head) (keys values bytes listed contents : ℕ) (e : is_list_shaped h keys values bytes listed contents ≡ true) where
  pub list_shape : Shaped h keys values bytes
  list_shape = shape (and_right (eqb listed contents) (is_shaped h keys values bytes) e)

  pub list_paired : listed ≡ contents
  list_paired = eqb-true listed contents (and_left (eqb listed contents) (is_shaped h keys values bytes) e)

-- the shape that recover asks for
pub recoverable : (h : Head) (keys : List ℕ) (values bytes survived : ℕ) → is_recoverable h keys values bytes survived ≡ true → Recoverable bytes survived
recoverable h keys values bytes survived e =
    let a = leb h.base.rows most_rows in
    let b = leb h.base.rows (length keys) in
    let c = eqb (length keys) values in
    let d = leb survived journal_bytes in
    let f = leb survived bytes in
    let g = not (eqb h.floor 0) && rising_keys 0 (take h.base.rows keys) in
    let e3 = and_right c (d && (f && g)) (and_right b (c && (d && (f && g))) (and_right a (b && (c && (d && (f && g)))) e)) in
    let most = leb-true survived journal_bytes (and_left d (f && g) e3) in
    record {
      few = omega arith;
      there = omega arith;
      within = leb-true survived bytes (and_left f g (and_right d (f && g) e3));
    }
