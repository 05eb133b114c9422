-- The laws that `keys` is proved by.
pub mod Names
pub mod Occurring
pub mod Targets
pub mod GraphGrown
pub mod NodeKinds
pub mod EdgesInTurn
pub mod RowsInTurn
pub mod Growing
pub mod GrowingKeys
pub mod SwitchParts
