-- What a reader must believe.
pub mod Base
pub mod Pass
-- Laws of it, and that no second answer satisfies a contract.
pub mod PassLaws
pub mod Unique
