-- The laws of graphs' bytes, for the proofs of this crate and of those that use it.
pub mod FieldBytes
pub mod GaugedCases
pub mod ByKinds
pub mod Spelling
pub mod SpelledCases
pub mod SpelledNodes
pub mod CaseOrder
pub mod TestedPlaces
pub mod AcceptedNodes
pub mod Spelled
pub mod RowsLeft
