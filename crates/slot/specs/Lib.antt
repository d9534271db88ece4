-- What a reader must believe.
pub mod Bits
pub mod Slot
pub mod Slots
pub mod Formed
pub mod Places
-- Laws of it, and that no second answer satisfies a contract.
pub mod BitLaws
pub mod Laws
pub mod RowLaws
pub mod FormedLaws
pub mod PlaceLaws
pub mod Unique
-- Examples, computed.
pub mod Examples
