-- The laws of the order of a track drawing.
pub mod NextPlace
pub mod StepByStep
-- The keys of the places that may follow:
pub mod Rows
pub mod Climb
pub mod FrontLaws
pub mod PutInOrder
-- Request 14's sentences:
pub mod Request14
