pub mod Rows
pub mod Findings
