-- What a reader must believe: the parts of the call; its contract is in `map_store`.
pub mod Checkpoint
-- Laws of it, which lead to the contract, and that no second answer satisfies that of `keep_from`.
pub mod CheckpointLaws
pub mod Unique
