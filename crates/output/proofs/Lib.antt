-- The laws of the whole output: inputs that are cut, and what follows a build.
pub mod Cuts
pub mod Outcomes
