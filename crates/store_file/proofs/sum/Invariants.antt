-- `store_file::sum` meets its contract. The loop's invariant: the sum so far, gone on with the bytes that are left, is the sum of all. Assumes nothing.
use Rattle.std.proofs.Common.{◌≡◌, drop}
use Rattle.store_file.specs.Layout.{sum_from, sum_of}
use Rattle.store_file.proofs.sum.Given as goal

abbrev pub invariant-loop-byte : goal.invariant-loop-byte
invariant-loop-byte l = sum_from l.s (drop l.byte-index l.bytes) ≡ sum_of l.bytes
