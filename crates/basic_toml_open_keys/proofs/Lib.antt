pub mod KeyIsAdded
pub mod Greatest
pub mod Naming
pub mod FirstKeys
pub mod Turned
