-- `record::append` meets its contract: the unused end comes back with the record at its front, and what stands before it is as it was.
-- Assumes nothing.
use mathlib.Core.Path.{◌≡◌}
use mathlib.Core.List.{List, ◌++◌, append-nil}
use Prim.Native.Nat.{ℕ, ◌+◌, ◌-◌, ◌*◌, ◌≤◌}
use native.Mathlib.Omega.{arith}
use borrow.Rule.Slice.PartMut.{put_mid, Post-is}
use lib.ListN.{length, take, drop, length-drop}
use lib.Seq.{drop-drop, drop-length, take_all}
use Rattle.rules.specs.Kinds.{record_size}
use Rattle.record.specs.Bytes.{bytes_of}
use Rattle.record.proofs.append.Goals as goal

-- the part is back in its place: what it ended as, and nothing behind it
back : (j part enc : List ℕ) (at : ℕ) → at + record_size ≤ length j → part ≡ enc ++ drop record_size (take (length j - at) (drop at j))
    → put_mid at (length j - at) j part ≡ take at j ++ (enc ++ drop (at + record_size) j)
back j part enc at h e =
    let m : take (length j - at) (drop at j) ≡ drop at j = take_all (length j - at) (drop at j) (rw length-drop (omega arith)) in
    rw (Post-is at (length j) j (omega arith), drop-length, e, m, append-nil, drop-drop record_size at j)

pub returns : goal.returns
returns c =
    let a = c.args in
    back a.journal.now _ (bytes_of a.r) (a.used * record_size) (omega arith) c.write.ensures
