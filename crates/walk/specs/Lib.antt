-- What a reader must believe.
pub mod Walk
-- Laws of it, and that no second answer satisfies a contract.
pub mod Judged
pub mod Laws
pub mod Unique
