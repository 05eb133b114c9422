-- The laws of the numbers of tests and of a rule's tests, made in a piece.
pub mod Numbers
pub mod CodeNumbers
pub mod PairsApart
pub mod ListedTests
pub mod MadeTurns
pub mod OneMask
pub mod MasksOutcome
pub mod MasksRight
