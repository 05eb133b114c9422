-- What is answered at an execute of a rule.
pub mod views
