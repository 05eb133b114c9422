-- The laws of tests by their numbers, for the proofs of this crate and of those that use it.
pub mod AscendingLists
pub mod TestNumbers
pub mod NotesWanted
pub mod RowTurns
pub mod NotesRight
pub mod RowRight
pub mod SheetRows
pub mod UnderRight
pub mod TestsRight
