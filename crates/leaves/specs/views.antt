-- How the code keeps things.
pub mod TakenNotes
pub mod Seeking
pub mod RuleRead
pub mod LeafAnswers
