-- The journal of the same deeds that nothing has shortened: every accepted call has left its record, a checkpoint has raised low and dropped nothing.
-- Assumes nothing.
use Rattle.std.specs.Prelude.{◌≡◌, refl, List, [], ◌∷◌}
use Rattle.rules.specs.Calls.{Store, empty, record_of, push}
use Rattle.history.specs.History.{Deed, Did, Checkpointed}

-- a deed in a journal that forgets nothing
abbrev pub replayed : Deed → Store → Store
replayed (Did c) s = push (record_of c s) s
replayed (Checkpointed t) s = record { low = t; floor = s.floor; base = s.base; records = s.records }

-- the whole journal of some deeds, the newest first
abbrev pub whole : List Deed → Store
whole [] = empty
whole (d ∷ older) = replayed d (whole older)

-- its floor stays 1
pub whole_floor : (ds : List Deed) → (whole ds).floor ≡ 1
whole_floor [] = refl
whole_floor (Did c ∷ ds) = whole_floor ds
whole_floor (Checkpointed t ∷ ds) = whole_floor ds

-- its base stays empty
pub whole_base : (ds : List Deed) → (whole ds).base ≡ []
whole_base [] = refl
whole_base (Did c ∷ ds) = whole_base ds
whole_base (Checkpointed t ∷ ds) = whole_base ds
