-- The laws of codes.
pub mod CodeOrder
pub mod FitCodes
pub mod TermRuns
