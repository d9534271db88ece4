-- What a reader must believe.
pub mod Marks
pub mod Compact
-- Laws of it, and that no second answer satisfies a contract.
pub mod MarksLaws
pub mod Laws
pub mod Unique
