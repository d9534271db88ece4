-- What a reader must believe.
pub mod Text
pub mod Written
pub mod Refused
-- Laws of it, and that no second answer satisfies a contract.
pub mod RefusedLaws
pub mod Laws
pub mod Calls
pub mod Alone
pub mod Unique
-- Examples, computed.
pub mod Examples
