-- How the records of patterns are read and noted.
pub mod views
