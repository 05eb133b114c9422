-- The laws of checked and rewritten nodes, for the proofs of this crate and of those that use it.
pub mod CodeOrder
pub mod CasesPass
pub mod KeptTests
pub mod Switches
pub mod Copying
pub mod CopiedRecords
pub mod NodeHeads
pub mod NodesPass
pub mod CopiedNodes
pub mod Starts
