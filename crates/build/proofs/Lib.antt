-- From keys to the graph's bytes:
pub mod ListedTables
pub mod GrownBytes
-- What a build that is not refused wrote:
pub mod BuiltBytes
