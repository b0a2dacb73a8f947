pub mod FieldKeys
pub mod TypeAnswers
pub mod TypeReads
pub mod TypeFaults
pub mod FieldFaults
pub mod Records
