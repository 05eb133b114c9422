-- How the code keeps things.
pub mod Front
pub mod HandedBack
