-- How the library packs its results.
pub mod Packed
pub mod PackedWords
pub mod PackedWalks
pub mod views
