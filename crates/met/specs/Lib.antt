-- The definitions that the contracts of `met` cite.
pub mod views
