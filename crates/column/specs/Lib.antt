-- What a reader must believe.
pub mod Column
-- Laws of it, and that no second answer satisfies a contract.
pub mod AmongLaws
pub mod Laws
pub mod Unique
-- Examples, computed.
pub mod Examples
