-- How the code keeps things.
pub mod PatternRecord
pub mod Note
pub mod NoteCode
