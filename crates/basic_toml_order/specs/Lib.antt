pub mod RowsFirst
pub mod Sound
pub mod Writable
pub mod Statements
