-- The laws of lines, for the proofs of this crate and of those that use it.
pub mod Hexadecimal
pub mod Wrote
pub mod LineParts
pub mod LineSizes
pub mod ExampleLines
