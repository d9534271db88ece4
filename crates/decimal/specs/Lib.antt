-- What a reader must believe.
pub mod Digits
pub mod Printed
-- Laws of it, and that no second answer satisfies a contract.
pub mod DigitsLaws
pub mod Laws
pub mod Unique
-- Examples, computed.
pub mod Examples
