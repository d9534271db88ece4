-- What a reader must believe.
pub mod Chains
pub mod Settled
-- Laws of it, and that no second answer satisfies a contract.
pub mod ChainLaws
pub mod SettledLaws
pub mod Unique
