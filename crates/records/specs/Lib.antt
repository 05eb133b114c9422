-- The fields of records, and how they are read and written.
pub mod Kinds
pub mod Fields
pub mod Reading
pub mod Refusals
pub mod Writing
pub mod Written
