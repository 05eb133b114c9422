-- How the code keeps things.
pub mod CaseRanges
pub mod CheckNode
