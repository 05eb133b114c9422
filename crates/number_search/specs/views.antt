-- How the code keeps things.
pub mod CodeCases
pub mod NumberRows
