-- The walk over a built graph, up to demand 3.
pub mod StepEdges
pub mod BuiltSteps
pub mod BuiltWalk
pub mod Demand3
pub mod LiveEdges
pub mod LiveOn
pub mod SameWalk
