-- How the code keeps things.
pub mod Wants
pub mod Row
pub mod TestsOf
