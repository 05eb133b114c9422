-- The tests of a rule, and what the live rules want at a place.
pub mod TestsOfRules
pub mod TestNumbers
pub mod LiveWants
pub mod SoundWants
pub mod TheWant
pub mod NearTests
pub mod SameTests
