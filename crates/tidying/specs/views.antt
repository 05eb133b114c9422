-- How the code keeps things.
pub mod HandedBack
pub mod TidyRows
