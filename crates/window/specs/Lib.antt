-- The counts of the last thousand answers, and how a window keeps them.
pub mod LastThousand
pub mod views
pub mod Cells
pub mod Handed
