-- What the walk of bytes is.
pub mod Walking
pub mod views
