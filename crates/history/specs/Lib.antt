-- What a reader must believe: the history, its refusals, and what a sequence of calls is.
pub mod History
pub mod Refusals
pub mod Adders
pub mod Lawful
pub mod Cells
pub mod MapCells
