-- What a reader must believe: the parts of the call; its contract is in `map_store`.
pub mod Commit
-- Laws of it, which lead to the contract.
pub mod CommitLaws
pub mod RowLaws
