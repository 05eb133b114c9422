-- The definitions that the contracts of this crate cite: sheets, how they are read and written, the notes of a rule.
pub mod Sheet
pub mod ReadSheet
pub mod WriteSheet
pub mod views
