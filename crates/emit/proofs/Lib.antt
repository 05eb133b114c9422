-- The laws that `emit` is proved by.
pub mod WritingOn
pub mod InTurn
pub mod AskedBytes
pub mod GraphWritten
