-- What the parts of a list make of its columns. Assumes nothing.
use Rattle.std.specs.Prelude.{◌≡◌, Bool, cond, List, ◌++◌, ℕ, eqb, length, drop, Some}
use Rattle.rules.specs.Values.{Row}
use Rattle.rules.specs.Lists.{row_keys}
use Rattle.rules.specs.Columns.{row_values}
use Rattle.rules.specs.Calls.{with_room}
use Rattle.answer.specs.Reply.{Reply, told}

-- a list in front of what stood in two columns, if it was accepted
pub record FilledIf (rows : List Row) (oks ovs : List ℕ) (accepted : Bool) (oks' ovs' : List ℕ) : Type 0 where
  pub keys : oks' ≡ cond accepted (row_keys rows ++ drop (length rows) oks) oks
  pub values : ovs' ≡ cond accepted (row_values rows ++ drop (length rows) ovs) ovs

-- list, where the shape and the time are good: the rows are counted, and written where there is room for them
pub record ListedIn (rows : List Row) (oks ovs : List ℕ) (a : Reply) (oks' ovs' : List ℕ) : Type 0 where
  pub reply : a ≡ told (with_room 0 (length rows) (length oks)) (Some (length rows))
  pub written : FilledIf rows oks ovs (eqb a.number 0) oks' ovs'
