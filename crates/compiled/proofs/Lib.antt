-- The laws of tables and cuts, for the proofs of this crate and of those that use it.
pub mod PartReads
pub mod TurnedCuts
pub mod ColumnTurns
pub mod NoteTurns
pub mod SoundCodes
pub mod RuleWants
pub mod Filling
pub mod FilledTables
pub mod RulesTabled
