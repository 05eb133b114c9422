-- The laws of the records of patterns, and of notes as numbers.
pub mod Heads
pub mod HeadBytes
pub mod NoteCodes
