-- The laws of turns: which test is asked before which.
pub mod Turning
pub mod SameListed
pub mod LowestTurns
pub mod PlaceTurns
pub mod OrderTurns
