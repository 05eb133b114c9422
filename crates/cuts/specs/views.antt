-- How the code keeps things.
pub mod Cuts
pub mod Runs
pub mod FramedRuns
pub mod CaseRuns
pub mod CutsOf
