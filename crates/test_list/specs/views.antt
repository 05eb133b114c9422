-- How the code keeps things.
pub mod Numbers
pub mod Tests
