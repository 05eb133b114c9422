-- What tidying a sheet leaves, as the code keeps it.
pub mod views
