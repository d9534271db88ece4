-- What a reader must believe.
pub mod Kinds
pub mod Walks
pub mod Gathered
pub mod Ends
pub mod Past
-- Laws of it, and that no second answer satisfies a contract.
pub mod WalksLaws
pub mod GatheredLaws
pub mod EndsLaws
pub mod PastLaws
pub mod Unique
