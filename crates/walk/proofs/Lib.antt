-- The laws of the walk, for the proofs of this crate and of those that use it.
pub mod Indexing
pub mod LeafRules
pub mod WalksAgree
pub mod Replies
