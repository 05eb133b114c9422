-- How the code keeps things.
pub mod HeaderRead
pub mod Noted
pub mod NoteArray
pub mod NotesBehind
pub mod NoteRanges
