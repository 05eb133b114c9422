-- How the code keeps things.
pub mod NotesOutcome
pub mod ReadAs
