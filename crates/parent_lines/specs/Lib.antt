-- The parents of all places as text, counted out.
pub mod ParentLines
pub mod CountedOut
pub mod views
