-- What the steps of a walk are.
pub mod views
