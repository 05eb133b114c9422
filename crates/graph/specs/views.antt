-- How the code keeps things.
pub mod WriteNode
pub mod Rewriting
pub mod NodeRecord
