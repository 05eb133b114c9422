-- What is known of bytes that were accepted.
pub mod views
pub mod Questions
