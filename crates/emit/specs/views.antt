-- How the code keeps things.
pub mod Written
pub mod Laid
