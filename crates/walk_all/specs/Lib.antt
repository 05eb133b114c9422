-- What the walks of many pieces are.
pub mod WalkAll
pub mod EachPiece
pub mod views
