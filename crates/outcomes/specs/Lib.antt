-- What the numbers of a piece's places say.
pub mod views
