-- What a reader must believe.
pub mod Keys
-- Laws of it, and that no second answer satisfies a contract.
pub mod KeysLaws
pub mod Some
pub mod Meets
pub mod Clear
pub mod Unique
