-- The laws of the walks of many pieces: the first piece, its reading and its turn; the pieces one after another; what is written.
pub mod LeastPiece
pub mod FirstWalks
pub mod FirstMade
pub mod Opening
pub mod Turns
pub mod Pieces
pub mod Progress
pub mod FewResults
pub mod EachResult
pub mod GoesOn
mod WalkAllPlaces
