-- The laws of tables: all places stand in them, none before one above it, and they give asking orders.
pub mod EveryPlace
pub mod PlacesAbove
pub mod TableAsks
pub mod Questions
pub mod TableBytes
-- How a table is read:
pub mod ReadOn
pub mod TableLoop
