-- What a suspended piece waits for.
pub mod views
