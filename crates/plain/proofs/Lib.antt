-- The laws of a rule's outcome, and of pieces that were read.
pub mod Gathering
pub mod NoteTurns
pub mod SoundNotes
pub mod NotesRight
pub mod PiecesRead
