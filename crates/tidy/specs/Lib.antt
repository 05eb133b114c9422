-- What a tidy sheet is, and what tidying answers.
pub mod TidyRule
pub mod TidySheet
pub mod Tidied
