-- How a piece is read, written and laid out.
pub mod Piece
pub mod ReadPiece
pub mod CheckPiece
pub mod WritePiece
pub mod views
