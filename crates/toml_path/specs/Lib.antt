pub mod Find
pub mod Path
