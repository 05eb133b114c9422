-- The laws of digits, for the proofs of this crate and of those that use it.
pub mod Digits
