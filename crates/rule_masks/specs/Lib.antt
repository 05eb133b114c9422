-- The tests of a rule, made in a piece.
pub mod views
