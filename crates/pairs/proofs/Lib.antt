-- The laws of pairs that are kept one after another.
pub mod Slots
pub mod KeptLists
pub mod PutPairs
pub mod NoteRows
pub mod NotePairs
