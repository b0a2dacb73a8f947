pub mod Meaning
pub mod RefusalText
