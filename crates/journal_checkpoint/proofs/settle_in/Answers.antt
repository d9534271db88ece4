-- `journal_checkpoint::settle_in` meets its contract: the list that was made is copied over the base where it fits. Assumes nothing.
use Rattle.std.proofs.Common.{◌≡◌, ℕ, List, length, arith, subst}
use Rattle.std.proofs.Math.Nat.{min-le_right}
use Rattle.rules.specs.Limits.{most_rows}
use Rattle.rules.specs.Values.{Row}
use Rattle.rules.specs.Lists.{list_at}
use Rattle.rules.specs.Columns.{first_rows}
use Rattle.rules.specs.Calls.{list_of}
use Rattle.record.specs.Bytes.{records_in}
use Rattle.record.specs.Records.{records_of}
use Rattle.record.specs.declared.Records.{Records}
use Rattle.values.specs.Base.{base_rows}
use Rattle.values.specs.declared.base.BaseRows.{BaseRows}
use Rattle.table.specs.Laws.{next_within, next_copied}
use Rattle.journal_store.specs.declared.Head.{Head}
use Rattle.journal_store.specs.Shape.{meaning, row_room}
use Rattle.journal_store.specs.CallContracts.{Fits}
use Rattle.journal_checkpoint.proofs.settle_in.Goals as goal

-- the rows and records that the list is made from are those of the store
made : (h : Head) (keys values j : List ℕ) (t : ℕ) (b : BaseRows) (r : Records) → b.keys.now ≡ keys → b.values.now ≡ values → b.count ≡ h.base.rows
    → r.bytes.now ≡ j → r.used ≡ h.journal.used → list_at (base_rows b) (records_of r) t ≡ list_of t (meaning h keys values j)
made h keys values j t b r k v n c u = λ i. list_at (first_rows (n i) (k i) (v i)) (records_in (u i) (c i)) t

pub copy-requires : goal.copy-requires
copy-requires g c =
    ((next_within _ _ _ _ _ _ c.listing-count.ensures).in_keys, omega (arith, c.min.ensures, c.if-min-count.false, min-le_right most_rows (length c.args.keys.now)))

pub returns : goal.returns
returns g c =
    let a = c.args in
    let v = c.listing-count.ensures in
    let b = c.new-base.ensures in
    let r = c.new-records.ensures in
    subst (λ (rows : List Row). Fits (row_room (length a.keys.now)) rows a.keys.now a.values.now c.copy.new.to c.copy-2.new.to c.listing-count.result)
    (made a.h a.keys.now a.values.now a.journal.now a.t c.new-base.result c.new-records.result b.0 b.1 b.2 r.0 r.1)
    (record {
      count = v.count;
      fits = omega (arith, c.min.ensures, c.if-min-count.false);
      filled = next_copied _ _ _ _ _ _ v _ _ _ _ c.copy.ensures c.copy-2.ensures;
    })
