pub mod Plain
pub mod PlainTables
pub mod Tries
pub mod Values
