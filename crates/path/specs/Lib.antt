-- What the path of a walk is.
pub mod views
