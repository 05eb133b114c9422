-- What the theorems speak of besides the definitions of the other crates.
pub mod Questions
pub mod AcceptedBytes
pub mod BuiltGraph
pub mod TidyWritten
pub mod LongForm
pub mod TurnedNever
pub mod Path
pub mod Marked
pub mod Example
