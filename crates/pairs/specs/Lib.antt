-- How the pairs of a sheet are kept.
pub mod views
