-- What a reader must believe.
pub mod Answer
pub mod About
-- That no second answer satisfies a contract.
pub mod Unique
