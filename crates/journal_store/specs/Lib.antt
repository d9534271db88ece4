-- What a reader must believe: the shape of a store and its meaning, the heads and the contracts of the calls; and a store as a call reads it.
pub mod Shape
pub mod Heads
pub mod CallContracts
pub mod Lent
-- Laws of these, and that no second answer satisfies a contract.
pub mod ShapeLaws
pub mod Tests
pub mod Laws
pub mod MeaningLaws
pub mod LentLaws
pub mod Unique
