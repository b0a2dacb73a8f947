pub mod Keys
pub mod Index
pub mod SlotOrder
pub mod IndexLaws
