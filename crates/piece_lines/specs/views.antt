-- How the code keeps things.
pub mod Turned
pub mod GraphFor
