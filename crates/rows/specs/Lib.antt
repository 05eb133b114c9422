-- The tests of a rule as a set.
pub mod views
