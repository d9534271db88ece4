-- First the theorems, each with its whole signature.
pub mod Theorems
-- The theorems with their proofs, and examples on cells.
pub mod Demands
pub mod Restarts
pub mod Endings
pub mod Silence
pub mod MapDemands
pub mod Corollaries
pub mod Counters
pub mod Witness
pub mod SharedWitness
pub mod Marked
-- The same on what a journal store means: the invariant of its sequences.
pub mod LawfulLaws
pub mod Course
pub mod Good
pub mod GoodLaws
pub mod Judged
pub mod Kept
pub mod ValueSince
pub mod Alike
pub mod KeptAlike
pub mod RefusedAlike
pub mod RecoveredAlike
pub mod Recovered
pub mod Listed
pub mod Rows
pub mod Replayed
pub mod Allowed
pub mod Written
pub mod Sound
pub mod Told
pub mod RefusalsTold
pub mod Whole
pub mod Tied
pub mod Room
pub mod Answered
-- And on what a map store means.
pub mod Maps
pub mod MapVersions
pub mod MapPlaces
pub mod MapAgrees
pub mod MapAnswers
pub mod MapMeanings
-- From the lent cells to what they mean.
pub mod Meant
pub mod Lent
pub mod MapMeant
