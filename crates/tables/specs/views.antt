-- How the code keeps things.
pub mod Planes
pub mod Turns
pub mod TablesOf
