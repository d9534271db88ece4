-- The map store that some deeds make, on what it means. Assumes nothing.
use Rattle.std.specs.Prelude.{List, [], ◌∷◌, ℕ}
use Rattle.map_store.specs.Meaning.{MapStore, empty_map, map_refusal, map_after}
use Rattle.history.specs.History.{Deed, Did, Checkpointed}
use Rattle.map_store.specs.Meaning as map

-- section 6 but for shape and room, for every deed
abbrev pub map_refused : Deed → MapStore → ℕ
map_refused (Did c) m = map_refusal c m
map_refused (Checkpointed t) m = map.checkpoint_refusal t m

-- what a deed makes of it
abbrev pub map_did : Deed → MapStore → MapStore
map_did (Did c) m = map_after c m
map_did (Checkpointed t) m = map.checkpointed t m

-- the map store of some deeds, the newest first
abbrev pub mapped : List Deed → MapStore
mapped [] = empty_map
mapped (d ∷ older) = map_did d (mapped older)
