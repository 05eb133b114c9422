-- The laws of the tables: which pending test is asked first.
pub mod AskedFrom
pub mod FirstAsked
