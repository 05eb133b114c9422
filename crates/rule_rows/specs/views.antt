-- How the code keeps things.
pub mod Row
pub mod Words
