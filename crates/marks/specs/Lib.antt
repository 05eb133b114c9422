-- What reading a rule marks and notes.
pub mod views
