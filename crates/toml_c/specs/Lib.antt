pub mod Answers
pub mod Checks
pub mod Gets
pub mod Jsons
