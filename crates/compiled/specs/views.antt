-- How the code keeps things.
pub mod Columns
pub mod CutRules
pub mod Compiling
