-- The table of a reading order, its bytes, and the questions that it is asked.
pub mod Table
pub mod TableBytes
pub mod Asking
pub mod views
