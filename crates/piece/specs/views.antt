-- How the code keeps things.
pub mod Cells
pub mod Emptied
pub mod LaidOut
pub mod TermRecord
