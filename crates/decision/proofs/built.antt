-- Built graphs: their nodes, that the check accepts them, and sharing.
pub mod BuiltNodes
pub mod BuiltSwitch
pub mod BuiltGraph
pub mod Sharing
pub mod OneLeaf
pub mod SwitchSentence
pub mod OlderSheets
pub mod LiftedGraph
pub mod SameGraph
