-- What the checks of cases and nodes say.
pub mod views
