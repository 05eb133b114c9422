-- How the code keeps things.
pub mod TestNumbers
pub mod Kept
pub mod RuleMasks
