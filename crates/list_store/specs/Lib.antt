-- What a reader must believe.
pub mod Text
-- Laws of it, and that no second answer satisfies a contract.
pub mod Laws
pub mod Unique
-- Examples, computed.
pub mod Examples
