pub mod KeysAreRemembered
pub mod FindingsSoFar
