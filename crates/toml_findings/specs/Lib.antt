pub mod Dates
pub mod Excerpt
pub mod Places
pub mod OtherKeys
pub mod Findings
