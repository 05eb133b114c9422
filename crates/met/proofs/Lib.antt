-- The laws that `met` is proved by.
pub mod Numbers
pub mod Chains
pub mod Adding
pub mod Meeting
