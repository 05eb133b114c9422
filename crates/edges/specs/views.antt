-- How the code keeps things.
pub mod VertexKey
pub mod KeysBehind
pub mod NodeIn
