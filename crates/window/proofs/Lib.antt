-- Which answers are taken, and the steps of the code:
pub mod Taken
pub mod Steps
-- The last of a list, and counts:
pub mod Lasts
pub mod Counts
-- What a feed does to the cells:
pub mod Moves
pub mod Roomed
pub mod Keeping
pub mod Kept
-- The sentences of request 12:
pub mod CellCounts
pub mod Request12
