-- The order of a track drawing, and what writing its table answers and leaves.
pub mod Track
pub mod Ordering
pub mod views
