-- The tables of a sheet: what stands in them, rule by rule.
pub mod views
