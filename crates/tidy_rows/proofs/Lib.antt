-- The laws of this crate: what a variable becomes by its word, and going on by one record.
pub mod TidyWords
pub mod RowSteps
