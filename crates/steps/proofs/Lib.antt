-- The laws of a walk's steps: the narrowest case, the cases that are left, the step at a node's record, and what the piece says of
-- it.
pub mod CodeCases
pub mod NarrowestPass
pub mod CasesLeft
pub mod NodeSteps
pub mod StepsMade
pub mod StepsAgree
pub mod OrderedCases
