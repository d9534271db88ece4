-- What several proofs use.
pub mod Laid
