pub mod FieldsReturn
pub mod FieldsSent
pub mod RecordsReturn
pub mod WrittenReturns
pub mod VariantsRead
