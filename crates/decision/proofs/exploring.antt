-- Breadth first: what is met, in which order, and how often.
pub mod BreadthFirst
pub mod MetOnce
pub mod ExploreSteps
pub mod Explored
pub mod ExploreMap
pub mod MappedEdges
