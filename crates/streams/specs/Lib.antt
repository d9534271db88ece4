-- What a reader must believe.
pub mod Moves
-- Laws of it, and that no second answer satisfies a contract.
pub mod MovesLaws
pub mod Unique
