-- From the tests that were read to the tables of a sheet.
pub mod SheetTables
