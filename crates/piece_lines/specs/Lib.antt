-- The lines of a sheet and its pieces.
pub mod BuiltLines
pub mod views
