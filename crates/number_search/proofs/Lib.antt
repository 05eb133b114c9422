-- The laws of a search among the cases of a switch: what is read in a row, how a row is halved, and which case is the narrowest.
pub mod WideFields
pub mod FirstOfRow
pub mod ReadRow
pub mod Halving
pub mod Narrowest
pub mod NamesPassed
