-- An array that a loop fills from its start: with what is left it completes to the whole. Assumes nothing.
use mathlib.Core.Path.{◌≡◌}
use mathlib.Core.List.{List, [], ◌∷◌, ◌++◌, append-nil}
use Prim.Native.Nat.{ℕ, ◌+◌, ◌≤◌, ◌<◌}
use native.Mathlib.Numerals.{add-one}
use lib.ListN.{length, take, set}
use lib.Seq.{take_all, take-suc-set, append_snoc}

-- a cell more
pub laid : {A : Type 0} (cells : List A) (i : ℕ) (x : A) (rest whole : List A) → i < length cells → take i cells ++ (x ∷ rest) ≡ whole
    → take (i + 1) (set cells i x) ++ rest ≡ whole
laid cells i x rest whole l e = rw (add-one, take-suc-set cells i x l, append_snoc) e

-- nothing is left
pub all_laid : {A : Type 0} (cells : List A) (i : ℕ) (whole : List A) → length cells ≤ i → take i cells ++ [] ≡ whole → cells ≡ whole
all_laid cells i whole l e = rw (take_all i cells l, append-nil) at e
