-- The tests of a sheet, and what its check says.
pub mod SheetTests
pub mod CheckSheet
pub mod views
