-- The records of a rule in a row.
pub mod views
