-- How the code keeps things.
pub mod TestedPlaces
pub mod KeptPairs
pub mod NoteTests
pub mod Gathered
pub mod TestsRead
pub mod Starts
