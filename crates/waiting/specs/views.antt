-- How the code keeps things.
pub mod OpenTests
pub mod SpanTests
