-- What the calls over a sheet and a graph say.
pub mod CheckGraph
pub mod Rewritten
pub mod views
pub mod WrittenGraph
