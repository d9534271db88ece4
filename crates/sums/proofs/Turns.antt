-- One byte more that is filled. Assumes nothing.
use Rattle.std.proofs.Common.{◌≡◌, ℕ, suc, ◌+◌, ◌-◌, ◌<◌, List, set, arith}
use Rattle.sums.specs.Sums.{fill_on}

-- a byte is filled
pub byte_filled : (value : ℕ) (bytes : List ℕ) (i end : ℕ) (all : List ℕ) → fill_on value bytes i (end - i) ≡ all → i < end
    → fill_on value (set bytes i value) (i + 1) (end - (i + 1)) ≡ all
byte_filled value bytes i end all h b =
    let w : end - i ≡ suc (end - (i + 1)) = omega arith in
    rw w at h
