-- That bytes are accepted exactly when they spell an accepted sheet:
pub mod WrittenBytes
pub mod ReadsSpelled
pub mod Spelled
pub mod Acceptance
-- What reading a sheet tells of it:
pub mod Named
pub mod Questions
pub mod CheckedSheets
pub mod FoundTests
-- That only the number of rules is limited:
pub mod RuleLimit
