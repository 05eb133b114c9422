-- Keys: sets of rules and tests, which vertex a key is, the test asked first and the orders of asking, and where edges lead.
pub mod Sets
pub mod Vertices
pub mod SameVertex
pub mod AskedFirst
pub mod OrderByPlaces
pub mod AscendingPlaces
pub mod EdgeKeys
pub mod EdgesLeft
