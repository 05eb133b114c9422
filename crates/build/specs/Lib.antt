-- What building answers, and the buffer that it leaves.
pub mod BuildOutcome
pub mod views
pub mod Building
