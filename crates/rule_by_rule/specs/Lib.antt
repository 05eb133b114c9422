-- How the plain answer is found.
pub mod views
