pub mod Keys
pub mod Names
pub mod Kept
pub mod PresentKeys
pub mod OpenKeys
