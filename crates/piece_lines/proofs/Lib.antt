-- The laws of the line of a sheet and those of its pieces, one after another.
pub mod PieceLines
pub mod Progress
pub mod Turns
pub mod SheetLine
mod PutBuiltPlaces
