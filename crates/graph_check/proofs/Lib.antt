-- The laws of the calls over a sheet and a graph, for the proofs of this crate and of those that use it.
pub mod TestsKept
pub mod Indexing
pub mod FoundGraph
pub mod AcceptedBytes
pub mod Headers
pub mod WrittenAgain
-- The calls in sentences over bytes:
pub mod GraphBytes
