-- Laws of lawful deeds. Assumes nothing.
use Rattle.std.specs.Prelude.{List, ℕ, zero, suc, drop}
use Rattle.history.specs.History.{Deed}
use Rattle.history.specs.Lawful.{Lawful, start, went}

-- the newest forgotten
pub lawful_drop : (x : ℕ) {ds : List Deed} → Lawful ds → Lawful (drop x ds)
lawful_drop zero l = l
lawful_drop (suc x) start = start
lawful_drop (suc x) (went l e) = lawful_drop x l
