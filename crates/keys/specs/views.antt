-- How the code keeps things.
pub mod Expanded
pub mod Grown
