-- The laws of this crate: of what is marked and noted.
pub mod Marking
