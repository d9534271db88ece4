-- What a reader must believe.
pub mod Limits
pub mod Kinds
pub mod Value
pub mod Effects
pub mod Transactions
pub mod Times
pub mod Values
pub mod Lists
pub mod Columns
pub mod Conflicts
pub mod Checkpoints
pub mod Recovery
pub mod Calls
pub mod Before
-- Laws of it, and that no second answer satisfies a contract.
pub mod ColumnLaws
pub mod EffectLaws
pub mod Bools
pub mod Passed
pub mod Meeting
pub mod Running
pub mod Judged
pub mod BeforeLaws
pub mod Unique
-- Examples, computed.
pub mod Examples
