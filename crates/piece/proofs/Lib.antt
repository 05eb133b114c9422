-- The laws of reading pieces into cells, and of the bytes that spell them.
pub mod Rooms
pub mod StoredCells
pub mod Telling
pub mod Emptying
pub mod Readings
pub mod Heads
pub mod RecordKinds
pub mod TermsRead
pub mod TermCells
pub mod RowCells
pub mod PiecesRead
pub mod HeadSpelled
pub mod TermSpelled
pub mod WrittenBytes
pub mod Spelled
