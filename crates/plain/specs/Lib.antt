-- What the plain answer of bytes is.
pub mod Plain
pub mod views
