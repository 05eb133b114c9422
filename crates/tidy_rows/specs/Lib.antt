-- The tidy form of a rule from its records.
pub mod views
