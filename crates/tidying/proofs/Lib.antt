-- The laws of this crate. Of the numbers of variables as they are given, and of the length of tidy forms:
pub mod Settled
pub mod SameSize
pub mod RowBounds
pub mod RuleTurns
-- Of the records of an accepted rule, and what is known of its variables behind them:
pub mod RuleRecords
pub mod MetVariables
pub mod NumberedVariables
-- So what the code writes is the tidy form:
pub mod TidyForms
pub mod TidiedSheets
