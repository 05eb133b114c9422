-- The laws of edges, for the proofs of this crate and of those that use it.
pub mod Dropping
pub mod Holding
pub mod TwoOrMore
pub mod Widths
pub mod WantedTests
pub mod Leads
pub mod EdgeKeys
pub mod Nodes
