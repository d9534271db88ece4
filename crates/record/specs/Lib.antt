-- What a reader must believe.
pub mod Bytes
pub mod Records
-- Laws of it, and that no second answer satisfies a contract.
pub mod Numbers
pub mod Laws
pub mod Laid
pub mod Walks
pub mod Unique
-- Examples, computed.
pub mod Examples
