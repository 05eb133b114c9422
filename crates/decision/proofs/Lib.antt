-- The laws of decision graphs, by chapters.
pub mod Truth
pub mod exploring
pub mod cases
pub mod rules
pub mod keys
pub mod elimination
pub mod built
pub mod walking
pub mod waiting
pub mod marked
