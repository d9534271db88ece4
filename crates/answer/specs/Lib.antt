-- What a reader must believe.
pub mod Reply
pub mod Shown
-- Laws of it, and that no second answer satisfies a contract.
pub mod Laws
pub mod ShownLaws
pub mod Unique
