-- How the code keeps things.
pub mod CaseCodes
pub mod GraphSize
