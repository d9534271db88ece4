-- What a reader must believe.
pub mod Line
pub mod Play
pub mod Tally
pub mod Run
pub mod Follow
pub mod Rows
-- Laws of it, and that no second answer satisfies a contract.
pub mod WordLaws
pub mod RunLaws
pub mod Unique
