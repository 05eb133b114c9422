-- How the code keeps things.
pub mod KeptPairs
pub mod Slot
pub mod PutAt
pub mod NoteVariables
