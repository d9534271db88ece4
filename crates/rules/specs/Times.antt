-- Rule 3.3 on the records of a journal, the newest first: last, and the next number. Assumes nothing.
use Rattle.std.specs.Prelude.{ℕ, suc, min, max, cond, List, [], ◌∷◌}
use Rattle.rules.specs.Limits.{numbers_end}
use Rattle.rules.specs.declared.Record.{Record}
use Rattle.rules.specs.Kinds.{is_begin, is_commit}

-- one record more: a commit's time counts
abbrev pub last_step : Record → ℕ → ℕ
last_step r l = cond (is_commit r) (max l r.time) l

-- the greatest of low and all commit times
abbrev pub last : ℕ → List Record → ℕ
last low [] = low
last low (r ∷ rs) = last_step r (last low rs)

-- one record more: a begin's number counts
abbrev pub above_step : Record → ℕ → ℕ
above_step r n = cond (is_begin r) (max n (suc r.transaction)) n

-- the greater of floor and one more than the highest number in a begin
abbrev pub above : ℕ → List Record → ℕ
above floor [] = floor
above floor (r ∷ rs) = above_step r (above floor rs)

-- the same, but never above the end of the numbers
abbrev pub next : ℕ → List Record → ℕ
next floor rs = min (above floor rs) numbers_end
