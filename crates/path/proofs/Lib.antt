-- The laws of the path: the tests met, a walk under way, and what the piece says of it.
pub mod MetCodes
pub mod GoingOn
pub mod Indexed
pub mod Standing
pub mod PathsAgree
