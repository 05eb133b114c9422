-- The laws of what a suspended piece waits for.
pub mod OpenAgree
pub mod MetTests
pub mod MetAsked
pub mod AlongTests
pub mod RulesAdded
pub mod ListParts
pub mod RuleAlong
pub mod LiveTests
pub mod CellsSay
pub mod NoSpans
pub mod SpanWaitsRight
pub mod Examples
