-- How the code keeps things.
pub mod Known
pub mod FirstPiece
pub mod Turns
