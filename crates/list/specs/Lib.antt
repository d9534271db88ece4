-- What a reader must believe.
pub mod Ending
-- Laws of it, and that no second answer satisfies a contract.
pub mod EndingLaws
pub mod Unique
