-- What a reader must believe: what a store means, its shape, the heads, the contracts of the calls and a store as they are lent it.
pub mod Meaning
pub mod Shape
pub mod Heads
pub mod CallContracts
pub mod Lent
-- Laws of these, and that no second answer satisfies a contract.
pub mod ShapeLaws
pub mod Tests
pub mod Laws
pub mod MeaningLaws
pub mod Unique
