-- What a reader must believe.
pub mod Sample
-- That no second answer satisfies a contract.
pub mod Unique
