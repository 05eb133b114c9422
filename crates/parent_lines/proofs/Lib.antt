-- The laws of the lines counted out, and request 13.
pub mod LineRows
pub mod PlaceLines
pub mod AllLines
pub mod Request13
