-- The example of document 01 and the marked cases, computed.
pub mod Example
pub mod MarkedWalks
