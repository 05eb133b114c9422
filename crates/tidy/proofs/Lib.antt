-- The laws of tidy sheets. Sheets whose tidy form is computed:
pub mod Examples
-- The variables of a rule, their pairs and their new numbers:
pub mod Occurrences
pub mod Pairs
pub mod FewNames
pub mod NewNumbers
pub mod PairOrder
-- The tidy rule has the rule's tests and is accepted:
pub mod Series
pub mod Gauges
pub mod Renumbered
pub mod TidyTests
pub mod TidyAccepted
-- It is made from the tests alone, so rules and sheets have one tidy form exactly when they have the same tests:
pub mod ByPlace
pub mod Rebuild
pub mod Exactly
pub mod TidySheets
-- It is short:
pub mod TidyLength
-- The tidy form record by record, and its numbers in one pass:
pub mod TidyRecords
pub mod Uses
pub mod InOrder
