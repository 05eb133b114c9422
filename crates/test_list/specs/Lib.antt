-- The tests of a sheet by their numbers.
pub mod views
