-- What a reader must believe.
pub mod Layout
pub mod Opened
-- Laws of it, and that no second answer satisfies a contract.
pub mod Laws
pub mod Damage
pub mod Unique
-- Examples, computed.
pub mod Examples
