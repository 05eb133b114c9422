-- What a search among the cases of a switch is.
pub mod views
