-- The laws of this crate: of records in a row, and of the words of variables.
pub mod NextRecords
pub mod WordLaws
