-- The numbers that stand for terms.
pub mod views
