-- How the code keeps things.
pub mod GraphIndex
pub mod Header
