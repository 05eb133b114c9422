-- How the records of nodes are read and written.
pub mod ReadGraph
pub mod views
