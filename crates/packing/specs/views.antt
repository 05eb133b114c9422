-- How results leave the library.
pub mod Numbered
