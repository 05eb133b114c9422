-- How the code keeps things.
pub mod Look
pub mod CompareCells
pub mod CellOutcome
