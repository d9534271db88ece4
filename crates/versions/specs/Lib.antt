-- What a reader must believe.
pub mod Versions
pub mod Columns
pub mod Search
pub mod Stamps
-- Laws of it, and that no second answer satisfies a contract.
pub mod Laws
pub mod SearchLaws
pub mod Unique
-- Examples, computed.
pub mod Examples
