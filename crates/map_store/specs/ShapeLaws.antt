-- A good shape passes the shape test, lends its used rows, and stays in columns as long. Assumes nothing.
use Rattle.std.specs.Prelude.{◌≡◌, refl, true, ℕ}
use Rattle.std.proofs.Common.{arith, le-leb, eq-eqb, ne_eqb}
use Rattle.rules.specs.Limits.{most_versions}
use Rattle.slot.specs.FormedLaws.{formed_empty, formed_shaped}
use Rattle.versions.specs.Versions.{Columns}
use Rattle.versions.specs.Columns.{Spans, Long}
use Rattle.map_store.specs.declared.MapHead.{MapHead}
use Rattle.map_store.specs.Shape.{empty_head, Lengths, lengths, is_shaped, Shaped}

-- a good shape passes the test
pub shape_passes : (h : MapHead) (l : Lengths) → Shaped h l → is_shaped h l ≡ true
shape_passes h l w =
    rw (
      le-leb h.used most_versions w.limit,
      le-leb h.used l.keys w.rows,
      eq-eqb l.keys l.times w.times,
      eq-eqb l.keys l.values w.values,
      eq-eqb l.keys l.marks w.marks,
      ne_eqb h.next 0 w.numbered,
    )
    (formed_shaped h.slots w.formed)

-- and stays one in columns as long
pub shaped_long : (h : MapHead) {cs cs' : Columns} → Long cs cs' → Shaped h (lengths cs) → Shaped h (lengths cs')
shaped_long h l w =
    record {
      limit = w.limit;
      rows = rw l.keys w.rows;
      times = rw (l.keys, l.times) w.times;
      values = rw (l.keys, l.values) w.values;
      marks = rw (l.keys, l.marks) w.marks;
      numbered = w.numbered;
      formed = w.formed;
    }

-- an empty head has a good shape over columns of one length
pub empty_shaped : (n : ℕ) → Shaped empty_head (record { keys = n; times = n; values = n; marks = n })
empty_shaped n =
    record { limit = omega arith; rows = omega arith; times = refl; values = refl; marks = refl; numbered = λ e. omega arith; formed = formed_empty }

-- lent rows of a good shape
pub lent : (h : MapHead) (cs : Columns) → Shaped h (lengths cs) → Spans h.used cs
lent h cs w =
    record {
      keys = w.rows;
      times = omega (arith, w.rows, w.times);
      values = omega (arith, w.rows, w.values);
      marks = omega (arith, w.rows, w.marks);
    }
