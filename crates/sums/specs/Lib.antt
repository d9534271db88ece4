-- What a reader must believe.
pub mod Sums
-- That no second answer satisfies a contract.
pub mod Unique
