-- How the code keeps things.
pub mod LeafWalks
pub mod Ready
