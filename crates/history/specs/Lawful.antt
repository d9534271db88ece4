-- Deeds that the history does not refuse, room apart: what every sequence consists of. Assumes nothing.
use Rattle.std.specs.Prelude.{◌≡◌, List, [], ◌∷◌}
use Rattle.history.specs.History.{Deed, history}
use Rattle.history.specs.Refusals.{refusal_in}

-- each deed gets 0 in the history of those before it, the newest first
pub data Lawful : List Deed → Type 0 where
  start : Lawful []
  went : {d : Deed} {ds : List Deed} → Lawful ds → refusal_in d (history ds) ≡ 0 → Lawful (d ∷ ds)
