-- The elimination: rules are dropped only when contradicted, up to the right leaf.
pub mod Elimination
pub mod LocalFacts
pub mod FirmTests
pub mod SeenTests
pub mod RightKeys
pub mod RightLeaves
pub mod SwitchOwes
pub mod RightSwitch
pub mod RightSteps
