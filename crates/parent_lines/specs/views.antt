-- How the code counts the places out.
pub mod Counting
