-- `map_list::write` meets its contract: the list that was made aside is told, and copied where there is room. Assumes nothing.
use mathlib.Core.Path.{◌≡◌, ap}
use mathlib.Core.List.{List, [], ◌++◌}
use Prim.Native.Nat.{ℕ, ◌≤◌}
use native.Mathlib.Omega.{arith}
use lib.ListN.{length, take, drop}
use borrow.Author.Tests.{le-leb}
use Rattle.std.specs.Prelude.{Some}
use Rattle.rules.specs.Calls.{with_room}
use Rattle.rules.specs.Values.{Row}
use Rattle.answer.specs.Reply.{accepted}
use Rattle.table.specs.Table.{Next}
use Rattle.table.specs.Laws.{next_within, next_copied}
use Rattle.versions.specs.Versions.{columns, versions_of, list_at}
use Rattle.map_store.specs.Tests.{say_value}
use Rattle.map_list.specs.List.{ListedIn}
use Rattle.map_list.proofs.write.Goals as goal

module _ (rows : List Row) (oks ovs : List ℕ) {a b a' b' : List ℕ} {n : ℕ} (w : Next rows a b a' b' n) where
  copied : n ≤ length oks → {oks' ovs' : List ℕ} → oks' ≡ take n a' ++ drop n oks → ovs' ≡ take n b' ++ drop n ovs
      → ListedIn rows oks ovs (accepted (Some n)) oks' ovs'
  copied l {oks'} {ovs'} k v =
      let f = next_copied rows a b a' b' n w oks ovs oks' ovs' k v in
      record {
        reply =
            say_value (with_room 0 (length rows) (length oks)) (Some n) (Some (length rows)) (ap Some w.count)
            (rw (← w.count, le-leb n (length oks) l));
        written = record { keys = f.keys_column; values = f.values_column };
      }

pub copy-requires : goal.copy-requires
copy-requires g c = ((next_within _ _ _ _ _ _ (c.listing-count.ensures [])).in_keys, omega arith)

pub copy-requires-2 : goal.copy-requires-2
copy-requires-2 g c = ((next_within _ _ _ _ _ _ (c.listing-count.ensures [])).in_values, omega (arith, c.if-out_keys-count.false))

pub returns : goal.returns
returns g c marks =
    let a = c.args in
    let cs = columns a.stamps.keys.now a.stamps.times.now a.values.now marks in
    copied (list_at (versions_of a.stamps.used cs) a.t) a.out_keys.now a.out_values.now
    (c.listing-count.ensures marks) c.if-out_keys-count.false c.copy.ensures c.copy-2.ensures
