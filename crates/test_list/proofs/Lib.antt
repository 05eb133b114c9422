-- The laws of listed tests, for the proofs of this crate and of those that use it.
pub mod WordPlaces
pub mod PlaceNumbers
pub mod PutLists
pub mod SettledTests
pub mod TestsListed
pub mod SameTests
